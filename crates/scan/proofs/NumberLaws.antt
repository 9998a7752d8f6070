-- Laws of digits, of numbers as they are held, and of signs.
use Rattle.std.specs.Prelude.{Option, Some, None, option_map}
use Rattle.std.specs.Bool.{then_some}
use Rattle.std.specs.List.{between}
use Rattle.std.proofs.lemmas.Slice.{between_to_end}
use Rattle.std.proofs.lemmas.Int.{ints}
use mathlib.Core.Path.{◌≡◌, refl, ap}
use mathlib.Core.List.{List, [], ◌∷◌}
use mathlib.Core.Bool.{not, Bool, true, false, cond, ◌&&◌}
use Prim.Native.Nat.{ℕ, zero, suc, ◌+◌, ◌-◌, ◌*◌, ◌≤◌, ◌<◌, min}
use native.Mathlib.Omega.{arith}
use lib.Dec.{eqb, leb}
use lib.IntN.{pos, ◌-ℤ◌}
use mir.Syntax.{w64}
use mir.Val.{to_z, of_z}
use lib.ListN.{length, get_or, drop, drop_of_length-le}
use borrow.Author.Tests.{eq-eqb, ne_eqb}
use Rattle.scan.specs.Numbers.{is_digit, value_from, natural_of, integer_of, negated}
use Rattle.scan.specs.Held.{held_natural, held_integer}
use Rattle.scan.proofs.PieceLaws.{at_cons}

-- ---- digits

pub digits_end : (v : ℕ) (s : List ℕ) (i : ℕ) → length s ≤ i → value_from v (drop i s) ≡ Some v
unfolding value_from
digits_end v s i h = simp (drop_of_length-le s h)

pub digits_step : (v : ℕ) (s : List ℕ) (i : ℕ) → i < length s → value_from v (drop i s) ≡ cond (is_digit (get_or s i 0)) (value_from (10 * v + (get_or s i 0 - 48)) (drop (i + 1) s)) None
unfolding value_from
digits_step v s i h = simp (at_cons s i h)

-- digits that go on from two numbers which are held alike are held alike
by_digit : (z : Bool) (p q : Option ℕ) → held_natural p ≡ held_natural q → held_natural (cond z p None) ≡ held_natural (cond z q None)
by_digit true p q e = e
by_digit false p q e = refl

pub held_alike : (s : List ℕ) (x y : ℕ) → min x 10000000000 ≡ min y 10000000000 → held_natural (value_from x s) ≡ held_natural (value_from y s)
unfolding value_from held_natural
held_alike [] x y e = rw e
held_alike (b ∷ t) x y e =
    by_digit (leb 48 b && leb b 57) (value_from (10 * x + (b - 48)) t) (value_from (10 * y + (b - 48)) t)
    (held_alike t (10 * x + (b - 48)) (10 * y + (b - 48)) (omega arith))

pub held_most : (n : Option ℕ) (v : ℕ) → held_natural n ≡ Some v → v ≤ 10000000000
unfolding held_natural
held_most (Some u) v e = let f : min u 10000000000 ≡ v = cc in omega arith
held_most None v e = cc

-- ---- signs

held_plain : (n : Option ℕ) → held_integer (option_map pos n) ≡ option_map pos (held_natural n)
unfolding held_natural held_integer
held_plain (Some v) = refl
held_plain None = refl

held_negated : (n : Option ℕ) → held_integer (negated n) ≡ negated (held_natural n)
unfolding negated held_natural held_integer
held_negated (Some zero) = refl
held_negated (Some (suc u)) = let e : min (suc u) 10000000000 ≡ suc (min u 9999999999) = omega arith in rw e
held_negated None = refl

pub integer_plain : (s : List ℕ) → (get_or s 0 0 ≡ 45 → ⊥) → held_integer (integer_of s) ≡ option_map pos (held_natural (natural_of s))
unfolding integer_of
integer_plain s h = rw (ne_eqb (get_or s 0 0) 45 h) (held_plain (natural_of s))

-- what stands after a minus
pub integer_minus : (s : List ℕ) → get_or s 0 0 ≡ 45 → held_integer (integer_of s) ≡ negated (held_natural (natural_of (between 1 (length s) s)))
unfolding integer_of
integer_minus s h = rw (eq-eqb (get_or s 0 0) 45 h, between_to_end s 1 (length s) (omega arith)) (held_negated (natural_of (drop 1 s)))

pub minus_is : (v : ℕ) → v ≤ 10000000000 → then_some (not (eqb v 0)) (to_z w64 (of_z w64 (pos 0 -ℤ to_z w64 v))) ≡ negated (Some v)
unfolding negated
minus_is zero h = refl
minus_is (suc u) h = rw (ne_eqb (suc u) 0 (λ e. omega arith)) (ap Some (omega (arith, ints)))
