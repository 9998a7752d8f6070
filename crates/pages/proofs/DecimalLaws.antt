-- The digits that io writes are the definition's, and how many there are.
use Prim.Native.Nat.{ℕ, zero, suc, ◌-◌, ◌*◌, ◌/◌, ◌%◌, ◌^◌, ◌≤◌, ◌<◌}
use mathlib.Core.Path.{◌≡◌, sym, ap, ◌∙◌}
use mathlib.Core.List.{List, ◌∷◌}
use native.Mathlib.Omega.{arith}
use native.Mathlib.Decide.{dec_le}
use native.Mathlib.Nat.{pow-le-pow_right, mod-eq_of_lt, one-le-pow, pow-suc, not-suc-le-zero}
use lib.ListN.{length, take}
use lib.Seq.{length-take-le}
use mir.Syntax.{w32}
use mir.Val.{SFits}
use lib.IntN.{ℤ, pos, negsuc, nat_abs}
use lib.Signed.{lt_z}
use mathlib.Core.Bool.{true, false}
use borrow.Author.Tests.{lt-ltb, ltb-true}
use Rattle.io.specs.Digits.{last_digits, IsDigitCount}
use Rattle.scan.specs.Decimal.{decimal, whole}
use Rattle.scan.proofs.DecimalLaws.{decimal_one, decimal_more, decimal_long}

pub digits_decimal : (k n : ℕ) → IsDigitCount 10 1 n k → last_digits 10 k n ≡ decimal n
digits_decimal zero n x = absurd (not-suc-le-zero x.0)
digits_decimal (suc zero) n x =
    let small : n < 10 = x.1 in
    simp (mod-eq_of_lt small, lt-ltb n 10 small, decimal_one n small)
digits_decimal (suc (suc k)) n x =
    let a : 10 ^ suc k ≡ 10 ^ k * 10 = pow-suc 10 k in
    let b : 10 ^ suc (suc k) ≡ 10 ^ suc k * 10 = pow-suc 10 (suc k) in
    let e : suc (suc k) - 1 ≡ suc k = omega arith in
    let e₂ : suc k - 1 ≡ k = omega arith in
    let low : 10 ^ suc k ≤ n = rw e at (x.2 (omega arith)) in
    let one : 1 ≤ 10 ^ k = one-le-pow k 10 (omega arith) in
    let digit : n % 10 < 10 = omega arith in
    let rest = digits_decimal (suc k) (n / 10) (omega arith, omega (arith, x.1), λ _. rw e₂ (omega arith)) in
    simp (lt-ltb (n % 10) 10 digit, rest, decimal_more n (omega arith))

-- a number of 64 bits has at most 20 digits
pub few_digits : (n k : ℕ) → n < 2 ^ 64 → IsDigitCount 10 1 n k → k ≤ 20
few_digits n k h x = elim (dec_le k 20) [ yes p ↦ p | no p ↦ absurd (many p) ]
  where
    many : (k ≤ 20 → ⊥) → ⊥
    many p = let e : 10 ^ 20 ≤ 10 ^ (k - 1) = pow-le-pow_right {n = 10} (omega arith) {i = 20} {j = k - 1} (omega (arith, p)) in omega (arith, h, e, x.2 (omega (arith, p)))

-- how many they are
pub digits_length : (k n : ℕ) (out : List ℕ) → k ≤ length out → take k out ≡ last_digits 10 k n → IsDigitCount 10 1 n k → k ≡ length (decimal n)
digits_length k n out h e x = sym (length-take-le k out h) ∙ ap (λ (t : List ℕ). length t) (e ∙ digits_decimal k n x)

-- a number with its sign, from its size
pub whole_minus : (z : ℤ) (size : ℕ) → lt_z z (pos 0) ≡ true → size ≡ nat_abs z → 45 ∷ decimal size ≡ whole z
unfolding whole
whole_minus (pos n) size e h = absurd (not-suc-le-zero (ltb-true n 0 e))
whole_minus (negsuc n) size e h = rw h

pub whole_plus : (z : ℤ) (size : ℕ) → lt_z z (pos 0) ≡ false → size ≡ nat_abs z → decimal size ≡ whole z
unfolding whole
whole_plus (pos n) size e h = rw h
whole_plus (negsuc n) size e h = let c : true ≡ false = e in cc

pub whole_long : (z : ℤ) → SFits w32 z → length (whole z) ≤ 11
unfolding whole
whole_long (pos n) f = let l = decimal_long 9 n (omega (arith, f.sfits)) in omega arith
whole_long (negsuc n) f = let l = decimal_long 9 (suc n) (omega (arith, f.sfits)) in omega arith
