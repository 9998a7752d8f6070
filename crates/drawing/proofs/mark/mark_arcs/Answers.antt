-- `drawing::mark::mark_arcs` meets its contract.
use Rattle.std.proofs.Common.{arith}
use Rattle.walks.specs.Judged.{rows_in}
use Rattle.drawing.specs.Leads.{leads_at}
use Rattle.drawing.proofs.Steps.{mark_turn}
use Rattle.drawing.proofs.mark.mark_arcs.Goals as goal

pub loop-j-preserved : goal.loop-j-preserved
loop-j-preserved c =
    mark_turn (leads_at (rows_in c.args.tracks) c.args.lengths.now) c.loop-j.invariant c.leads.ensures (omega (arith, c.args.tracks.sound.arcs_high))
