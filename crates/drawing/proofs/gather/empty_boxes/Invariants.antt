-- `drawing::gather::empty_boxes` meets its contract. The loop's invariant: the boxes of the arcs up to e are empty.
use Rattle.geometry.specs.Box.{mark}
use Rattle.drawing.specs.Drawn.{Drawn, box_row}
use Rattle.drawing.specs.Gathered.{Emptied}
use Rattle.drawing.proofs.gather.empty_boxes.Given as goal

abbrev pub invariant-loop-e : goal.invariant-loop-e
invariant-loop-e l = Drawn box_row l.e (Emptied mark) l.initial.boxes l.boxes
