-- A mask of modules 1 to 32: bit module minus 1.
use Rattle.std.specs.Prelude.{◌≡◌, Bool, ℕ, zero, suc, ◌-◌, ◌/◌, ◌%◌, ◌^◌, ◌≤◌, eqb}
use Rattle.std.specs.Int.Bits.{bit_or}

-- bit i of a number, the lowest being bit 0
unfoldable pub bit : ℕ → ℕ → ℕ
bit zero n = n % 2
bit (suc i) n = bit i (n / 2)

-- the mask has module j: bit module minus 1 is set
pub record Has (mask j : ℕ) : Type 0 where
  pub low : 1 ≤ j
  pub set : bit (j - 1) mask ≡ 1

-- the same as a test, for a module from 1 on
abbrev pub has_b : ℕ → ℕ → Bool
has_b mask j = eqb (bit (j - 1) mask) 1

-- the mask with module j's bit set
unfoldable pub lighted : ℕ → ℕ → ℕ
lighted mask j = bit_or mask (2 ^ (j - 1))
