-- The coordinate format: the forms of a line, and its limits.
use Rattle.std.specs.Prelude.{ℕ, List, true, Result}
use Rattle.rules.specs.Limits.{most_nodes, least_coordinate, most_coordinate}
use Rattle.scan.specs.Ascii.{bytes}
use Rattle.scan.specs.Line.{line_of}
use Rattle.scan.specs.declared.fields.Fault.{Fault}
use Rattle.scan.specs.declared.line.Line.{Line}
use Rattle.dimacs.specs.Rules.{naturals, located}
use Rattle.dimacs.specs.declared.rows.Column.TheVariants.{First}
use Rattle.dimacs.specs.declared.format.Rules.{Rules}

-- the forms of the problem line and of a node's line
abbrev pub co_problem : List ℕ
co_problem = bytes "p aux sp co N"

abbrev pub co_node : List ℕ
co_node = bytes "v ID X Y"

unfoldable pub co_line : List ℕ → Result Line Fault
co_line s = line_of co_problem co_node s

-- for a graph of n nodes. `p aux sp co N`: N from 1 to 512, and equal to n; it counts the node lines.
-- `v ID X Y`: ID from 1 to n, X and Y from -1,000,000 to 1,000,000; each node once.
unfoldable pub co_rules : ℕ → Rules
co_rules n =
    record {
      problem = record { least = naturals 1 0 0; most = naturals most_nodes 0 0 };
      count = First;
      fewest = n;
      most = n;
      entries = record { least = located 1 least_coordinate least_coordinate; most = located n most_coordinate most_coordinate };
      once = true;
    }
