-- `settling::run::run_along` meets its contract.
use native.Mathlib.Omega.{arith}
use Rattle.frontier.proofs.Leaves.{mended_start}
use Rattle.settling.proofs.StepByStep.{stands_start}
use Rattle.settling.proofs.run.run_along.Goals as goal

pub put-requires : goal.put-requires
put-requires c = let a = c.args.task in (omega (arith, a.source, a.tracks.sound.nodes_high), mended_start)

pub settle-requires-clause-stands : goal.settle-requires-clause-stands
settle-requires-clause-stands c = stands_start _ c.put.ensures c.key.ensures c.start-labels.ensures
