-- Numbers as text: what `natural_of` and `integer_of` read.
use Rattle.std.specs.Prelude.{ℕ, zero, suc, ◌+◌, ◌/◌, ◌%◌, List, [], ◌∷◌, ◌++◌, cond, ltb, ℤ, pos, negsuc}
use Prim.Native.Char.{code}

-- a number of at most so many digits, the most significant first, without leading zeros
unfoldable pub spelt : ℕ → ℕ → List ℕ
spelt zero n = []
spelt (suc more) n = cond (ltb n 10) ((code "0" + n) ∷ []) (spelt more (n / 10) ++ ((code "0" + n % 10) ∷ []))

-- a number of any size: n has at most n digits, or one where it is 0
unfoldable pub decimal : ℕ → List ℕ
decimal n = spelt (suc n) n

-- a number that may be negative: one minus, then its size
unfoldable pub whole : ℤ → List ℕ
whole (pos n) = decimal n
whole (negsuc n) = code "-" ∷ decimal (suc n)
