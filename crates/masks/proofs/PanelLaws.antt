-- The list of a mask's modules: exactly these, lowest first, and as many as there are.
use mathlib.Core.Path.{◌≡◌, refl, sym, ap, subst, ◌∙◌}
use mathlib.Core.Logic.{◌↔◌, ◌≢◌, ◌⊎◌, inl, inr}
use mathlib.Core.List.{List, [], ◌∷◌}
use Prim.Native.Nat.{ℕ, zero, suc, ◌+◌, ◌-◌, ◌^◌, ◌≤◌, ◌<◌}
use native.Mathlib.Nat.{zero-add}
use native.Mathlib.Omega.{arith}
use native.Mathlib.Decide.{ℕ_discrete}
use borrow.Author.Tests.{eq-eqb, ne_eqb}
use lib.ListN.{length, get_or}
use Rattle.walks.specs.Count.{Count, zero_nodes, counted, passed}
use Rattle.masks.specs.Mask.{bit, Has}
use Rattle.masks.specs.Panel.{modules_from, modules_of}
use Rattle.masks.proofs.MaskLaws.{has_high}

-- ---- One module more, from below

module _ (mask k j : ℕ) where
  pub from_on : bit (j - 1) mask ≡ 1 → modules_from mask (suc k) j ≡ j ∷ modules_from mask k (suc j)
  unfolding modules_from
  from_on e = simp (eq-eqb (bit (j - 1) mask) 1 e)

  pub from_off : bit (j - 1) mask ≢ 1 → modules_from mask (suc k) j ≡ modules_from mask k (suc j)
  unfolding modules_from
  from_off e = simp (ne_eqb (bit (j - 1) mask) 1 e)

-- ---- The list has exactly the modules of the mask

-- j stands at some place of a list
abbrev Stands : List ℕ → ℕ → Type 0
Stands list j = (i : ℕ) × (i < length list) × (get_or list i 0 ≡ j)

-- j is a module of the mask, one of k from i on
abbrev OneOf : ℕ → ℕ → ℕ → ℕ → Type 0
OneOf mask k i j = (i ≤ j) × (j < i + k) × (bit (j - 1) mask ≡ 1)

first_or_later : (i j p : ℕ) (list : List ℕ) → p < suc (length list) → get_or (i ∷ list) p 0 ≡ j → (i ≡ j) ⊎ Stands list j
first_or_later i j zero list h e = inl e
first_or_later i j (suc p) list h e = inr (p, omega arith, e)

later : (i j : ℕ) (list : List ℕ) → Stands list j → Stands (i ∷ list) j
later i j list s = (suc s.0, omega (arith, s.1), s.2)

stands_one : (mask k i j : ℕ) → Stands (modules_from mask k i) j → OneOf mask k i j
unfolding modules_from
stands_one mask zero i j s = absurd (omega (arith, s.1))
stands_one mask (suc k) i j s = elim (ℕ_discrete (bit (i - 1) mask) 1) [
  | yes e ↦
      let t = subst (λ (l : List ℕ). Stands l j) (from_on mask k i e) s in
      elim (first_or_later i j t.0 (modules_from mask k (suc i)) t.1 t.2) [
        | inl p ↦ (omega arith, omega arith, subst (λ (x : ℕ). bit (x - 1) mask ≡ 1) p e)
        | inr r ↦ wider (stands_one mask k (suc i) j r)
      ]
  | no e ↦ wider (stands_one mask k (suc i) j (subst (λ (l : List ℕ). Stands l j) (from_off mask k i e) s))
]
  where
    wider : OneOf mask k (suc i) j → OneOf mask (suc k) i j
    wider a = (omega (arith, a.0), omega (arith, a.1), a.2)

one_stands : (mask k i j : ℕ) → OneOf mask k i j → Stands (modules_from mask k i) j
unfolding modules_from
one_stands mask zero i j a = absurd (omega (arith, a.0, a.1))
one_stands mask (suc k) i j a = elim (ℕ_discrete (bit (i - 1) mask) 1) [
  | yes e ↦ subst (λ (l : List ℕ). Stands l j) (sym (from_on mask k i e)) (elim (ℕ_discrete i j) [
    | yes p ↦ (0, omega arith, p)
    | no p ↦ later i j (modules_from mask k (suc i)) (one_stands mask k (suc i) j (above p))
  ])
  | no e ↦ subst (λ (l : List ℕ). Stands l j) (sym (from_off mask k i e)) (one_stands mask k (suc i) j (above (λ (p : i ≡ j). e (subst (λ (x : ℕ). bit (x - 1) mask ≡ 1) (sym p) a.2))))
]
  where
    above : i ≢ j → OneOf mask k (suc i) j
    above p = (omega (arith, a.0), omega (arith, a.1), a.2)

-- a number stands in the list exactly where it is that of one of the mask's modules
pub modules_listed : (mask : ℕ) → mask < 2 ^ 32 → (j : ℕ) → ((i : ℕ) × (i < length (modules_of mask)) × (get_or (modules_of mask) i 0 ≡ j)) ↔ Has mask j
modules_listed mask small j = (
  (λ s. let a = stands_one mask 32 1 j s in record { low = a.0; set = a.2 }),
  (λ h. one_stands mask 32 1 j (h.low, omega (arith, has_high mask j small h), h.set)),
)

-- a lower place has a lower number
abbrev Ascends : List ℕ → Type 0
Ascends list = (p q : ℕ) → p < q → q < length list → get_or list p 0 < get_or list q 0

with_lower : (i : ℕ) (list : List ℕ) → ((q : ℕ) → q < length list → i < get_or list q 0) → Ascends list → Ascends (i ∷ list)
with_lower i list lower a p zero h l = absurd (omega arith)
with_lower i list lower a zero (suc q) h l = lower q (omega arith)
with_lower i list lower a (suc p) (suc q) h l = a p q (omega arith) (omega arith)

ascending : (mask k i : ℕ) → Ascends (modules_from mask k i)
unfolding modules_from
ascending mask zero i = λ p q h l. absurd (omega arith)
ascending mask (suc k) i = elim (ℕ_discrete (bit (i - 1) mask) 1) [
  | yes e ↦
      let rest = modules_from mask k (suc i) in
      let lower : (q : ℕ) → q < length rest → i < get_or rest q 0 = λ q l. (stands_one mask k (suc i) (get_or rest q 0) (q, l, refl)).0 in
      subst Ascends (sym (from_on mask k i e)) (with_lower i rest lower (ascending mask k (suc i)))
  | no e ↦ subst Ascends (sym (from_off mask k i e)) (ascending mask k (suc i))
]

pub modules_ascending : (mask p q : ℕ) → p < q → q < length (modules_of mask) → get_or (modules_of mask) p 0 < get_or (modules_of mask) q 0
modules_ascending mask = ascending mask 32 1

-- ---- As many as there are modules

from_more : (mask k i : ℕ) → length (modules_from mask (suc k) i) ≡ length (modules_from mask k i) + length (modules_from mask 1 (i + k))
unfolding modules_from
from_more mask zero i = let e : i ≡ i + zero = omega arith in ap (λ (x : ℕ). length (modules_from mask 1 x)) e ∙ sym (zero-add (length (modules_from mask 1 (i + zero))))
from_more mask (suc k) i =
    let e : suc i + k ≡ i + suc k = omega arith in
    let ih = from_more mask k (suc i) ∙ ap (λ (x : ℕ). length (modules_from mask k (suc i)) + length (modules_from mask 1 x)) e in
    elim (ℕ_discrete (bit (i - 1) mask) 1) [
      | yes x ↦ ap length (from_on mask (suc k) i x) ∙ omega (arith, ih, ap length (from_on mask k i x))
      | no x ↦ ap length (from_off mask (suc k) i x) ∙ omega (arith, ih, ap length (from_off mask k i x))
    ]

count_up : (mask k : ℕ) → Count (Has mask) k (length (modules_from mask k 1))
unfolding modules_from
count_up mask zero = zero_nodes
count_up mask (suc k) =
    let e : 1 + k ≡ suc k = omega arith in
    let more = from_more mask k 1 ∙ ap (λ (x : ℕ). length (modules_from mask k 1) + length (modules_from mask 1 x)) e in
    elim (ℕ_discrete (bit (suc k - 1) mask) 1) [
      | yes x ↦
          let same : suc (length (modules_from mask k 1)) ≡ length (modules_from mask (suc k) 1) = omega (arith, more, ap length (from_on mask 0 (suc k) x)) in
          subst (Count (Has mask) (suc k)) same (counted (count_up mask k) (record { low = omega arith; set = x }))
      | no x ↦
          let same : length (modules_from mask k 1) ≡ length (modules_from mask (suc k) 1) = omega (arith, more, ap length (from_off mask 0 (suc k) x)) in
          subst (Count (Has mask) (suc k)) same (passed (count_up mask k) (λ h. x h.set))
    ]

pub modules_count : (mask : ℕ) → Count (Has mask) 32 (length (modules_of mask))
modules_count mask = count_up mask 32

-- ---- A worked mask: its lowest bit, the third and the highest

pub worked : modules_of (2 ^ 31 + 5) ≡ 1 ∷ 3 ∷ 32 ∷ []
unfolding modules_from bit
worked = refl
