-- The modules of a mask: the test, a module more, and that they tell the mask.
use mathlib.Core.Path.{◌≡◌, sym, ap, subst, ◌∙◌}
use mathlib.Core.Logic.{◌↔◌, ◌⊎◌, inl, inr, ⊎_elim}
use mathlib.Core.Bool.{true}
use Prim.Native.Nat.{ℕ, suc, ◌-◌, ◌^◌, ◌≤◌, ◌<◌, max}
use native.Mathlib.Omega.{arith}
use native.Mathlib.Decide.{ℕ_discrete, dec_lt}
use borrow.Author.Tests.{eqb-true, eq-eqb}
use lib.Pow.{pow-lt}
use lib.Bits.{or_lt}
use Rattle.masks.specs.Mask.{bit, Has, has_b, lighted}
use Rattle.masks.proofs.Bits.{bit_zero, bit_small, bits_same, bit_high, power_same, power_other, bit-bit_or}

-- ---- The test

pub has_yes : (mask j : ℕ) → 1 ≤ j → has_b mask j ≡ true → Has mask j
has_yes mask j low t = record { low = low; set = eqb-true (bit (j - 1) mask) 1 t }

pub yes_has : (mask j : ℕ) → Has mask j → has_b mask j ≡ true
yes_has mask j h = eq-eqb (bit (j - 1) mask) 1 h.set

-- ---- A mask of 32 bits has modules 1 to 32 only, and they tell it

pub has_high : (mask j : ℕ) → mask < 2 ^ 32 → Has mask j → j ≤ 32
has_high mask j small h = elim (dec_lt 32 j) [
  | yes over ↦ let z : ◌≡◌ {A = ℕ} 1 0 = sym h.set ∙ bit_high 32 (j - 1) mask small (omega arith) in absurd (omega arith)
  | no within ↦ omega arith
]

-- bit i is that of module i + 1
pub module-bit : (mask i : ℕ) → bit (suc i - 1) mask ≡ bit i mask
module-bit mask i = let e : suc i - 1 ≡ i = omega arith in ap (λ (x : ℕ). bit x mask) e

has_bit : (mask i : ℕ) → Has mask (suc i) ↔ (bit i mask ≡ 1)
has_bit mask i = ((λ h. sym (module-bit mask i) ∙ h.set), (λ e. record { low = omega arith; set = module-bit mask i ∙ e }))

-- masks with the same modules are the same
pub masks_same : (a b : ℕ) → a < 2 ^ 32 → b < 2 ^ 32 → ((j : ℕ) → Has a j ↔ Has b j) → a ≡ b
masks_same a b p q same = bits_same 32 a b p q λ i h. elim (ℕ_discrete (bit i a) 1) [
  | yes x ↦ x ∙ sym ((has_bit b i).0 ((same (suc i)).0 ((has_bit a i).1 x)))
  | no x ↦ elim (ℕ_discrete (bit i b) 1) [
    | yes y ↦ absurd (x ((has_bit a i).0 ((same (suc i)).1 ((has_bit b i).1 y))))
    | no y ↦ omega (arith, bit_small i a, bit_small i b)
  ]
]

-- 0 has no module
pub no_module : (j : ℕ) → ¬ Has 0 j
no_module j h = omega (arith, h.set, bit_zero (j - 1))

-- ---- A module more

module _ (mask j : ℕ) where
  lighted-bit : (i : ℕ) → bit i (lighted mask j) ≡ max (bit i mask) (bit i (2 ^ (j - 1)))
  unfolding lighted
  lighted-bit i = bit-bit_or i mask (2 ^ (j - 1))

  pub lighted_has : 1 ≤ j → (i : ℕ) → Has (lighted mask j) i ↔ (Has mask i ⊎ (i ≡ j))
  lighted_has low i = (
    (λ h. elim (ℕ_discrete i j) [
      | yes e ↦ inr e
      | no e ↦ inl (record { low = h.low; set = omega (arith, lighted-bit (i - 1), h.set, power_other (i - 1) (j - 1) (omega (arith, h.low))) })
    ]),
    ⊎_elim
        (λ (h : Has mask i). record { low = h.low; set = omega (arith, lighted-bit (i - 1), h.set, bit_small (i - 1) (2 ^ (j - 1))) })
        (λ (e : i ≡ j). subst (Has (lighted mask j)) (sym e) (record { low = low; set = omega (arith, lighted-bit (j - 1), power_same (j - 1), bit_small (j - 1) mask) })),
  )

  pub lighted_small : j ≤ 32 → mask < 2 ^ 32 → lighted mask j < 2 ^ 32
  unfolding lighted
  lighted_small high small = or_lt 32 mask (2 ^ (j - 1)) small (pow-lt {j = 32} (omega arith))
