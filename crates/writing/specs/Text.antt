-- The texts of a network and of its coordinates, by the forms that the readers take.
use Rattle.std.specs.Prelude.{ℕ, List, [], ◌∷◌, ℤ}
use Rattle.scan.specs.Decimal.{decimal, whole}
use Rattle.scan.specs.Written.{line_text, closed, listed}
use Rattle.dimacs.specs.Gr.{gr_problem, gr_arc}
use Rattle.dimacs.specs.Co.{co_problem, co_node}
use Rattle.walks.specs.Rows.{Rows, at}
use Rattle.geometry.specs.Row.{coordinate}

-- .gr: `p sp N M`, then a line `a U V W` for each arc 1..m
abbrev pub graph_line : ℕ → ℕ → List ℕ
graph_line n m = line_text gr_problem (decimal n ∷ decimal m ∷ [])

abbrev pub arc_line : ℕ → ℕ → ℕ → List ℕ
arc_line tail head weight = line_text gr_arc (decimal tail ∷ decimal head ∷ decimal weight ∷ [])

abbrev pub arc_text : Rows → ℕ → List ℕ
arc_text R e = arc_line (at R.tails e) (at R.heads e) (at R.weights e)

unfoldable pub gr_text : ℕ → ℕ → Rows → List ℕ
gr_text n m R = closed (graph_line n m ∷ listed (arc_text R) m)

-- .co: `p aux sp co N`, then a line `v ID X Y` for each node 1..n
abbrev pub places_line : ℕ → List ℕ
places_line n = line_text co_problem (decimal n ∷ [])

abbrev pub node_line : ℕ → ℤ → ℤ → List ℕ
node_line node x y = line_text co_node (decimal node ∷ whole x ∷ whole y ∷ [])

abbrev pub node_text : List ℤ → List ℤ → ℕ → List ℕ
node_text x y v = node_line v (coordinate x v) (coordinate y v)

unfoldable pub co_text : ℕ → List ℤ → List ℤ → List ℕ
co_text n x y = closed (places_line n ∷ listed (node_text x y) n)
