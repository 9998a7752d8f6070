-- `writing::texts::put_network` meets its contract. The loop's invariant: the lines of the arcs up to i stand on the page.
use Rattle.std.proofs.Common.{◌≡◌, ◌∷◌}
use Rattle.scan.specs.Written.{closed, listed}
use Rattle.walks.specs.Lent.{rows_of}
use Rattle.writing.specs.Text.{graph_line, arc_text}
use Rattle.writing.proofs.texts.put_network.Given as goal

abbrev pub invariant-loop-i : goal.invariant-loop-i
invariant-loop-i l = l.page ≡ closed (graph_line l.net.n l.net.m ∷ listed (arc_text (rows_of l.net)) l.i)
