-- `drawing::gather::gather_all` meets its contract.
use Rattle.walks.specs.Judged.{rows_in}
use Rattle.settling.proofs.Widen.{heads_ends}
use Rattle.drawing.specs.Drawn.{box_row, mask_row}
use Rattle.drawing.specs.Gathered.{add_place, add_module}
use Rattle.drawing.proofs.Steps.{none_yet, node_turn}
use Rattle.drawing.proofs.gather.gather_all.Goals as goal

pub link-chain-requires : goal.link-chain-requires
link-chain-requires c = heads_ends c.args.tracks.sound

pub loop-t-init : goal.loop-t-init
loop-t-init c =
    let a = c.args in
    let R = rows_in a.tracks in (
      none_yet box_row R a.tracks.n a.tracks.m (add_place a.nodes.x.now a.nodes.y.now) a.asked.boxes _,
      none_yet mask_row R a.tracks.n a.tracks.m (add_module a.nodes.modules.now) a.asked.masks _,
    )

pub loop-t-preserved : goal.loop-t-preserved
loop-t-preserved c =
    let a = c.args in
    let R = rows_in a.tracks in
    let l = c.loop-t in
    let marks = c.mark_toward.ensures in (
      node_turn box_row R a.tracks.n a.tracks.m (add_place a.nodes.x.now a.nodes.y.now) l.t marks l.invariant.0 c.add_place.ensures,
      node_turn mask_row R a.tracks.n a.tracks.m (add_module a.nodes.modules.now) l.t marks l.invariant.1 c.add_module.ensures,
    )
