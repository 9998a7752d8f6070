-- Decimal numbers, of any count of digits, with their true values.
use Rattle.std.specs.Prelude.{ℕ, zero, suc, ◌+◌, ◌-◌, ◌*◌, ℤ, pos, negsuc, List, [], ◌∷◌, Option, Some, None, option_map, Bool, cond, ◌&&◌, ◌||◌, not, eqb, leb, length, drop, get_or}
use Prim.Native.Char.{code}

abbrev pub is_digit : ℕ → Bool
is_digit b = leb (code "0") b && leb b (code "9")

-- the number that the digits of s continue, v before them
unfoldable pub value_from : ℕ → List ℕ → Option ℕ
value_from v [] = Some v
value_from v (b ∷ t) = cond (is_digit b) (value_from (10 * v + (b - code "0")) t) None

-- a digit or more, and no leading zero except `0` itself
abbrev pub unpadded : List ℕ → Bool
unpadded s = leb 1 (length s) && (eqb (length s) 1 || not (eqb (get_or s 0 0) (code "0")))

-- a number without sign
unfoldable pub natural_of : List ℕ → Option ℕ
natural_of s = cond (unpadded s) (value_from 0 s) None

-- what a number spells after a minus; `-0` is malformed
unfoldable pub negated : Option ℕ → Option ℤ
negated (Some zero) = None
negated (Some (suc v)) = Some (negsuc v)
negated None = None

-- a number with one leading minus, or none
unfoldable pub integer_of : List ℕ → Option ℤ
integer_of s = cond (eqb (get_or s 0 0) (code "-")) (negated (natural_of (drop 1 s))) (option_map pos (natural_of s))
