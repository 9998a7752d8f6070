-- `masks::has` meets its contract.
use mathlib.Core.Path.{ap}
use Prim.Native.Nat.{ℕ, ◌-◌}
use lib.Dec.{eqb}
use Rattle.masks.proofs.Bits.{bit_test}
use Rattle.masks.proofs.has.Goals as goal

pub returns : goal.returns
returns c = ap (λ (x : ℕ). eqb x 1) (bit_test c.args.mask (c.args.j - 1))
