-- `drawing::gather::add_place` meets its contract. The loop's invariant: the place is added to the boxes of the arcs up to e.
use Rattle.drawing.specs.Drawn.{Drawn, box_row, mark_of}
use Rattle.drawing.specs.Gathered.{add_place, AddedOnce}
use Rattle.drawing.proofs.gather.add_place.Given as goal

abbrev pub invariant-loop-e : goal.invariant-loop-e
invariant-loop-e l = Drawn box_row l.e (AddedOnce (mark_of l.marked) (add_place l.nodes.x.now l.nodes.y.now l.t)) l.initial.boxes l.boxes
