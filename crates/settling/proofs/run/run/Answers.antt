-- `settling::run::run` meets its contract.
use Rattle.settling.proofs.Widen.{tails_ends}
use Rattle.settling.proofs.run.run.Goals as goal

pub link-requires : goal.link-requires
link-requires c = tails_ends c.args.task.tracks.sound
