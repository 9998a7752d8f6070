-- Coordinates shifted to be unsigned, as the box test compares them.
use Rattle.std.specs.Prelude.{ℕ, ◌+◌, ◌-◌, ◌^◌, ◌<◌, ◌≤◌, ℤ, pos, negsuc}

-- any number of 32 bits, 2,147,483,648 more
unfoldable pub shifted : ℤ → ℕ
shifted (pos n) = n + 2_147_483_648
shifted (negsuc n) = 2_147_483_647 - n

-- two sides that one comparison serves: the second is at most one below the first, and one more than it is a number of 32 bits
pub record Span (from to : ℤ) : Type 0 where
  pub across : shifted from ≤ shifted to + 1
  pub below : shifted to + 1 < 2 ^ 32
