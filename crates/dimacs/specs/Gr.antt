-- The graph format: the forms of a line, and its limits.
use Rattle.std.specs.Prelude.{ℕ, List, false, Result}
use Rattle.rules.specs.Limits.{most_nodes, most_arcs, most_weight}
use Rattle.scan.specs.Ascii.{bytes}
use Rattle.scan.specs.Line.{line_of}
use Rattle.scan.specs.declared.fields.Fault.{Fault}
use Rattle.scan.specs.declared.line.Line.{Line}
use Rattle.dimacs.specs.Rules.{naturals}
use Rattle.dimacs.specs.declared.rows.Column.TheVariants.{Second}
use Rattle.dimacs.specs.declared.format.Rules.{Rules}

-- the forms of the problem line and of an arc's line
abbrev pub gr_problem : List ℕ
gr_problem = bytes "p sp N M"

abbrev pub gr_arc : List ℕ
gr_arc = bytes "a U V W"

unfoldable pub gr_line : List ℕ → Result Line Fault
gr_line s = line_of gr_problem gr_arc s

-- after a problem line with N = n. `p sp N M`: N from 1 to 512, M from 0 to 2,048; M, the second, counts the arc lines.
-- `a U V W`: U and V from 1 to N, W from 0 to 1,000,000; in the file's order.
unfoldable pub gr_rules : ℕ → Rules
gr_rules n =
    record {
      problem = record { least = naturals 1 0 0; most = naturals most_nodes most_arcs 0 };
      count = Second;
      fewest = 0;
      most = most_arcs;
      entries = record { least = naturals 1 1 0; most = naturals n n most_weight };
      once = false;
    }
