-- `masks::with_module` meets its contract.
use mathlib.Core.Path.{ap}
use Prim.Native.Nat.{◌-◌}
use native.Mathlib.Omega.{arith}
use lib.Bits.{bit_or}
use Rattle.masks.specs.Mask.{lighted}
use Rattle.masks.proofs.Bits.{one_shifted}
use Rattle.masks.proofs.with_module.Goals as goal

pub returns : goal.returns
unfolding lighted
returns c = ap (bit_or c.args.mask) (one_shifted (c.args.j - 1) (omega arith))
