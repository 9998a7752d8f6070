-- `drawing::gather::add_module` meets its contract. The loop's invariant: the module is added to the masks of the arcs up to e.
use Rattle.masks.specs.Mask.{lighted}
use Rattle.drawing.specs.Drawn.{Drawn, mask_row, mark_of}
use Rattle.drawing.specs.Gathered.{AddedOnce}
use Rattle.drawing.proofs.gather.add_module.Given as goal

abbrev pub invariant-loop-e : goal.invariant-loop-e
invariant-loop-e l = Drawn mask_row l.e (AddedOnce (mark_of l.marked) (λ b. lighted b l.j)) l.initial.masks l.masks
