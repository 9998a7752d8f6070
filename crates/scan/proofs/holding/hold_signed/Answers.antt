use Rattle.std.proofs.Common.{arith}
use Rattle.std.proofs.lemmas.Int.{ints, clamps}
use Rattle.scan.specs.Held.{held_z}
use Rattle.scan.proofs.holding.hold_signed.Goals as goal

pub returns : goal.returns
unfolding held_z
returns c = grind (arith, ints, clamps)
