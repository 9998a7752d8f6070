-- `masks::lamps` meets its contract.
use Prim.Native.Nat.{◌-◌}
use Rattle.masks.proofs.Lighting.{Lighting}
use Rattle.masks.proofs.lamps.Given as goal

abbrev pub invariant-loop-rest : goal.invariant-loop-rest
invariant-loop-rest l = Lighting l.mask l.initial.row l.row l.rest l.at

abbrev pub decreases-loop-rest : goal.decreases-loop-rest
decreases-loop-rest l = 32 - l.at
