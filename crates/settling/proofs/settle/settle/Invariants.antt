-- `settling::settle::settle` meets its contract. The loop's invariant: the run stands at the labels at hand.
use Prim.Native.Nat.{◌-◌}
use Rattle.settling.specs.Step.{Stands}
use Rattle.settling.proofs.settle.settle.Given as goal

abbrev pub invariant-loop-u : goal.invariant-loop-u
invariant-loop-u l = Stands l.task l.count l.labels l.tree

abbrev pub decreases-loop-u : goal.decreases-loop-u
decreases-loop-u l = l.task.tracks.n - l.count
