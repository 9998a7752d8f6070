-- `writing::texts::put_places` meets its contract. The loop's invariant: the lines of the nodes up to i stand on the page.
use Rattle.std.proofs.Common.{◌≡◌, ◌∷◌}
use Rattle.scan.specs.Written.{closed, listed}
use Rattle.writing.specs.Text.{places_line, node_text}
use Rattle.writing.proofs.texts.put_places.Given as goal

abbrev pub invariant-loop-i : goal.invariant-loop-i
invariant-loop-i l = l.page ≡ closed (places_line l.n ∷ listed (node_text l.x l.y) l.i)
