-- `drawing::gather::gather_all` meets its contract. The loop's invariant: the nodes up to t are added to what is asked.
use Rattle.walks.specs.Judged.{rows_in}
use Rattle.drawing.specs.Drawn.{DrawnIf, box_row, mask_row}
use Rattle.drawing.specs.Leads.{leads_to}
use Rattle.drawing.specs.Gathered.{add_place, add_module, AddedAll}
use Rattle.drawing.proofs.gather.gather_all.Given as goal

abbrev pub invariant-loop-t : goal.invariant-loop-t
invariant-loop-t l =
    let m = l.tracks.m in
    let leads = leads_to (rows_in l.tracks) l.tracks.n m in
    DrawnIf l.asked.boxes box_row m (AddedAll leads (add_place l.nodes.x.now l.nodes.y.now) l.t) l.initial.boxes l.boxes
    × DrawnIf l.asked.masks mask_row m (AddedAll leads (add_module l.nodes.modules.now) l.t) l.initial.masks l.masks
