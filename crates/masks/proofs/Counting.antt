-- The list of a mask's modules by counts of ones and trailing zeros.
use mathlib.Core.Path.{◌≡◌, refl, sym, ap, subst, ◌∙◌}
use mathlib.Core.List.{List, [], ◌∷◌, map}
use Prim.Native.Nat.{ℕ, zero, suc, ◌-◌, ◌/◌, ◌%◌, ◌^◌, ◌≤◌, ◌<◌}
use native.Mathlib.Nat.{pow-suc}
use native.Mathlib.Omega.{arith}
use native.Mathlib.Decide.{ℕ_discrete}
use lib.ListN.{length, length-map}
use lib.Count.{ones, ones_step, count_trailing_zeros, under}
use Rattle.masks.specs.Mask.{bit}
use Rattle.masks.specs.Panel.{modules_from, modules_of}
use Rattle.masks.proofs.Bits.{half_less, bit_zero}
use Rattle.masks.proofs.MaskLaws.{module-bit}
use Rattle.masks.proofs.PanelLaws.{from_on, from_off}

-- ---- The modules by a number's halves

shifted : (n k j : ℕ) → modules_from n k (suc (suc j)) ≡ map suc (modules_from (n / 2) k (suc j))
unfolding modules_from bit
shifted n zero j = refl
shifted n (suc k) j =
    let same : bit (suc (suc j) - 1) n ≡ bit (suc j - 1) (n / 2) = module-bit n (suc j) ∙ sym (module-bit (n / 2) j) in
    elim (ℕ_discrete (bit (suc j - 1) (n / 2)) 1) [
      | yes x ↦
          from_on n k (suc (suc j)) (same ∙ x) ∙ ap (λ (l : List ℕ). suc (suc j) ∷ l) (shifted n k (suc j))
          ∙ sym (ap (map suc) (from_on (n / 2) k (suc j) x))
      | no x ↦ from_off n k (suc (suc j)) (λ y. x (sym same ∙ y)) ∙ shifted n k (suc j) ∙ sym (ap (map suc) (from_off (n / 2) k (suc j) x))
    ]

-- of the modules 1 to k
abbrev first : ℕ → ℕ → List ℕ
first k n = modules_from n k 1

module _ (k n : ℕ) where
  odd : n % 2 ≡ 1 → first (suc k) n ≡ 1 ∷ map suc (first k (n / 2))
  unfolding bit
  odd e = from_on n k 1 e ∙ ap (λ (l : List ℕ). 1 ∷ l) (shifted n k 0)

  even : n % 2 ≡ 0 → first (suc k) n ≡ map suc (first k (n / 2))
  unfolding bit
  even e = from_off n k 1 (omega arith) ∙ shifted n k 0

pub no_modules : (k j : ℕ) → modules_from 0 k j ≡ []
unfolding modules_from
no_modules zero j = refl
no_modules (suc k) j = from_off 0 k j (λ e. let z = bit_zero (j - 1) in omega arith) ∙ no_modules k (suc j)

-- as many as the number has ones
ones_zero : (n : ℕ) → n < 1 → 0 ≡ ones n
unfolding ones
ones_zero zero h = refl
ones_zero (suc n) h = absurd (omega arith)

length_first : (k n : ℕ) → n < 2 ^ k → length (first k n) ≡ ones n
unfolding modules_from
length_first zero n h = ones_zero n h
length_first (suc k) n h =
    let ih = length-map (first k (n / 2)) suc ∙ length_first k (n / 2) (half_less k n h) in
    elim (ℕ_discrete (n % 2) 1) [
      | yes e ↦ ap length (odd k n e) ∙ omega (arith, ih, ones_step n)
      | no e ↦ let z : n % 2 ≡ 0 = omega arith in ap length (even k n z) ∙ omega (arith, ih, ones_step n)
    ]

pub modules_length : (mask : ℕ) → mask < 2 ^ 32 → length (modules_of mask) ≡ ones mask
modules_length mask = length_first 32 mask

-- ---- The first is told by the trailing zeros, and the others are those of the mask without that bit

-- u tells the first of them
abbrev Steps : ℕ → ℕ → ℕ → Type 0
Steps k n u = (u < k) × (2 ^ u ≤ n) × (first k n ≡ suc u ∷ first k (n - 2 ^ u))

step_odd : (k n : ℕ) → n % 2 ≡ 1 → Steps (suc k) n 0
step_odd k n e =
    let z : (n - 2 ^ 0) % 2 ≡ 0 = omega arith in
    let half : (n - 2 ^ 0) / 2 ≡ n / 2 = omega arith in
    (omega arith, omega arith, odd k n e ∙ sym (ap (λ (l : List ℕ). 1 ∷ l) (even k (n - 2 ^ 0) z ∙ ap (λ (x : ℕ). map suc (first k x)) half)))

step_even : (k n u : ℕ) → n % 2 ≡ 0 → Steps k (n / 2) u → Steps (suc k) n (suc u)
step_even k n u e s =
    let z : (n - 2 ^ suc u) % 2 ≡ 0 = omega (arith, pow-suc 2 u) in
    let half : (n - 2 ^ suc u) / 2 ≡ n / 2 - 2 ^ u = omega (arith, pow-suc 2 u) in (
      omega (arith, s.0),
      omega (arith, pow-suc 2 u, s.1),
      even k n e ∙ ap (map suc) s.2
          ∙ sym (ap (λ (l : List ℕ). suc (suc u) ∷ l) (even k (n - 2 ^ suc u) z ∙ ap (λ (x : ℕ). map suc (first k x)) half)),
    )

trailing_even : (k n : ℕ) → n % 2 ≡ 0 → count_trailing_zeros (suc k) n ≡ suc (count_trailing_zeros k (n / 2))
unfolding count_trailing_zeros
trailing_even k n e = ap (λ (d : ℕ). under d (count_trailing_zeros k (n / 2))) e

trailing_odd : (k n : ℕ) → n % 2 ≡ 1 → count_trailing_zeros (suc k) n ≡ 0
unfolding count_trailing_zeros
trailing_odd k n e = ap (λ (d : ℕ). under d (count_trailing_zeros k (n / 2))) e

steps : (k n : ℕ) → 0 < n → n < 2 ^ k → Steps k n (count_trailing_zeros k n)
steps zero n p h = absurd (omega arith)
steps (suc k) n p h = elim (ℕ_discrete (n % 2) 0) [
  | yes e ↦ subst (Steps (suc k) n) (sym (trailing_even k n e)) (step_even k n (count_trailing_zeros k (n / 2)) e (steps k (n / 2) (omega arith) (half_less k n h)))
  | no e ↦ let one : n % 2 ≡ 1 = omega arith in subst (Steps (suc k) n) (sym (trailing_odd k n one)) (step_odd k n one)
]

module _ (n : ℕ) (some : 0 < n) (small : n < 2 ^ 32) where
  pub trailing_low : count_trailing_zeros 32 n < 32
  trailing_low = (steps 32 n some small).0

  pub trailing_within : 2 ^ count_trailing_zeros 32 n ≤ n
  trailing_within = (steps 32 n some small).1

  pub modules_step : modules_of n ≡ suc (count_trailing_zeros 32 n) ∷ modules_of (n - 2 ^ count_trailing_zeros 32 n)
  modules_step = (steps 32 n some small).2
