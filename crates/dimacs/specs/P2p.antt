-- The format of a day's list: the forms of a line, and its limits.
use Rattle.std.specs.Prelude.{ℕ, List, false, Result}
use Rattle.rules.specs.Limits.{most_queries}
use Rattle.scan.specs.Ascii.{bytes}
use Rattle.scan.specs.Line.{line_of}
use Rattle.scan.specs.declared.fields.Fault.{Fault}
use Rattle.scan.specs.declared.line.Line.{Line}
use Rattle.dimacs.specs.Rules.{naturals}
use Rattle.dimacs.specs.declared.rows.Column.TheVariants.{First}
use Rattle.dimacs.specs.declared.format.Rules.{Rules}

-- the forms of the problem line and of a query's line
abbrev pub p2p_problem : List ℕ
p2p_problem = bytes "p aux sp p2p K"

abbrev pub p2p_query : List ℕ
p2p_query = bytes "q S T"

unfoldable pub p2p_line : List ℕ → Result Line Fault
p2p_line s = line_of p2p_problem p2p_query s

-- for a graph of n nodes. `p aux sp p2p K`: K from 0 to 256; it counts the query lines.
-- `q S T`: S and T from 1 to n; in the file's order.
unfoldable pub p2p_rules : ℕ → Rules
p2p_rules n =
    record {
      problem = record { least = naturals 0 0 0; most = naturals most_queries 0 0 };
      count = First;
      fewest = 0;
      most = most_queries;
      entries = record { least = naturals 1 1 0; most = naturals n n 0 };
      once = false;
    }
