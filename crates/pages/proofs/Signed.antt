-- An i32 in 64 bits, and its size.
use Prim.Native.Nat.{zero, suc, ◌+◌, ◌≤◌}
use mathlib.Core.Path.{◌≡◌, refl, sym, subst, ◌∙◌}
use mathlib.Core.Bool.{Bool, true, false, not}
use native.Mathlib.Nat.{not-suc-le-zero}
use native.Mathlib.Omega.{arith}
use lib.Dec.{T, ltb→lt}
use lib.IntN.{ℤ, pos, negsuc, neg_ℤ, nat_abs, ◌-ℤ◌, +ℤ_idl}
use lib.Signed.{mag, non_neg, lt_z, lt_z_no, yes_non_neg}
use mir.Syntax.{w32, w64}
use mir.Val.{to_z, of_z, SFits, Fits}
use mir.Facts.{sfits_widen, to_z-of_z}

minus_is : (z : ℤ) → pos 0 -ℤ z ≡ neg_ℤ z
minus_is z = +ℤ_idl (neg_ℤ z)

mag_neg : (z : ℤ) → mag (neg_ℤ z) ≤ mag z + 1
mag_neg (pos zero) = omega arith
mag_neg (pos (suc n)) = omega arith
mag_neg (negsuc n) = omega arith

size_low : (z : ℤ) → nat_abs z ≤ mag z + 1
size_low (pos n) = omega arith
size_low (negsuc n) = omega arith

neg_size : (z : ℤ) → nat_abs (neg_ℤ z) ≡ nat_abs z
neg_size (pos zero) = refl
neg_size (pos (suc n)) = refl
neg_size (negsuc n) = refl

neg_non_neg : (z : ℤ) → T (lt_z z (pos 0)) → T (non_neg (neg_ℤ z))
neg_non_neg (pos n) t = absurd (not-suc-le-zero (ltb→lt n 0 t))
neg_non_neg (negsuc n) t = tt

module _ (z : ℤ) (fits : SFits w32 z) where
  narrow : to_z w32 (of_z w32 z) ≡ z
  narrow = to_z-of_z {w = w32} fits

  -- the number is in 64 bits what it was in 32
  pub wide_fits : SFits w64 (to_z w32 (of_z w32 z))
  wide_fits = rw narrow (sfits_widen tt fits)

  pub wide : to_z w64 (of_z w64 (to_z w32 (of_z w32 z))) ≡ z
  wide = to_z-of_z {w = w64} wide_fits ∙ narrow

  -- and can be negated there
  pub minus_fits : SFits w64 (pos 0 -ℤ to_z w64 (of_z w64 (to_z w32 (of_z w32 z))))
  minus_fits = rw (wide, minus_is z) (record { sfits = omega (arith, mag_neg z, fits.sfits) })

  pub minus : to_z w64 (of_z w64 (pos 0 -ℤ to_z w64 (of_z w64 (to_z w32 (of_z w32 z))))) ≡ neg_ℤ z
  minus = to_z-of_z {w = w64} minus_fits ∙ rw wide (minus_is z)

  pub size_fits : Fits w64 (nat_abs z)
  size_fits = record { fits = omega (arith, size_low z, fits.sfits) }

  pub minus_size : nat_abs (neg_ℤ z) ≡ nat_abs z
  minus_size = neg_size z

  pub minus_good : lt_z z (pos 0) ≡ true → T (non_neg (neg_ℤ z)) × Fits w64 (nat_abs (neg_ℤ z))
  minus_good e = (neg_non_neg z (subst T (sym e) tt), rw (neg_size z) size_fits)

  pub plus_good : lt_z z (pos 0) ≡ false → T (non_neg z) × Fits w64 (nat_abs z)
  plus_good e = (yes_non_neg {z = z} (lt_z_no {a = z} {b = pos 0} (subst (λ (t : Bool). T (not t)) (sym e) tt)), size_fits)
