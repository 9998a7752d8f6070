-- A box with places added is the smallest that holds what it held and those; a mask with modules added has what it had and those.
use Prim.Native.Nat.{ℕ, zero, suc, ◌^◌, ◌≤◌, ◌<◌}
use mathlib.Core.Path.{◌≡◌, sym, ◌∙◌}
use mathlib.Core.Logic.{◌↔◌, ◌⊎◌, inl, inr, ⊎_elim}
use mathlib.Core.Bool.{Bool, true, false, false≢true}
use mathlib.Core.List.{List}
use native.Mathlib.Omega.{arith}
use native.Mathlib.Decide.{ℕ_discrete}
use lib.IntN.{ℤ}
use Rattle.geometry.specs.Box.{Box, Within, WellShaped, Smallest}
use Rattle.geometry.specs.Row.{coordinate}
use Rattle.geometry.proofs.SmallestLaws.{IsPlace, smallest_same}
use Rattle.geometry.proofs.MarkLaws.{taken_shaped, taken_smallest}
use Rattle.std.proofs.lemmas.Bool.{cond_both}
use Rattle.masks.specs.Mask.{Has}
use Rattle.masks.proofs.MaskLaws.{no_module, lighted_has, lighted_small}
use Rattle.walks.specs.Rows.{at}
use Rattle.drawing.specs.Gathered.{add_place, add_module, add_if, gathered}

-- (px, py) is the place of a node of 1..n to which the arc leads
pub record Led (leads : ℕ → Bool) (x y : List ℤ) (n : ℕ) (px py : ℤ) : Type 0 where
  pub node : ℕ
  pub low : 1 ≤ node
  pub high : node ≤ n
  pub leading : leads node ≡ true
  pub place : IsPlace (coordinate x node) (coordinate y node) px py

-- b is well shaped and the smallest around P
abbrev Snug : (ℤ → ℤ → Type 0) → Box → Type 0
Snug P b = WellShaped b × Smallest P b

-- the places of the nodes 1..n are within limits
abbrev pub PlacesIn : List ℤ → List ℤ → ℕ → Type 0
PlacesIn x y n = (t : ℕ) → 1 ≤ t → t ≤ n → Within (coordinate x t) × Within (coordinate y t)

module _ (leads : ℕ → Bool) (x y : List ℤ) {P : ℤ → ℤ → Type 0} {b : Box} (shaped : WellShaped b) (smallest : Smallest P b) where
  -- with one node more
  longer : {t : ℕ} {px py : ℤ} → Led leads x y t px py → Led leads x y (suc t) px py
  longer h = record { node = h.node; low = h.low; high = omega (arith, h.high); leading = h.leading; place = h.place }

  last : (t : ℕ) {px py : ℤ} → Led leads x y (suc t) px py → Led leads x y t px py ⊎ ((leads (suc t) ≡ true) × IsPlace (coordinate x (suc t)) (coordinate y (suc t)) px py)
  last t {px} {py} h = elim (ℕ_discrete h.node (suc t)) [
    | yes e ↦ inr (rw e at h.leading, rw e at h.place)
    | no e ↦ inl (record { node = h.node; low = h.low; high = omega (arith, h.high); leading = h.leading; place = h.place })
  ]

  pub grown_by : (n : ℕ) → PlacesIn x y n → Snug (λ px py. P px py ⊎ Led leads x y n px py) (gathered leads (add_place x y) n b)
  unfolding gathered add_if
  grown_by zero places = (shaped, smallest_same (λ px py. inl) (λ px py. ⊎_elim (λ p. p) (λ h. absurd (omega (arith, h.low, h.high)))) smallest)
  grown_by (suc t) places =
      let old = grown_by t (λ i low high. places i low (omega arith)) in
      let here = places (suc t) (omega arith) (omega arith) in
      let u = coordinate x (suc t) in
      let v = coordinate y (suc t) in
      cond_both (leads (suc t)) _ _ (Snug (λ px py. P px py ⊎ Led leads x y (suc t) px py))
      (λ yes. (
        taken_shaped u v here.0 here.1 old.0,
        smallest_same
            (λ px py. ⊎_elim (⊎_elim inl (λ h. inr (longer h))) (λ h. inr (record { node = suc t; low = omega arith; high = omega arith; leading = yes; place = h })))
            (λ px py. ⊎_elim (λ p. inl (inl p)) (λ h. ⊎_elim (λ k. inl (inr k)) (λ k. inr k.1) (last t h)))
            (taken_smallest u v old.0 old.1),
      ))
      (λ not. (
        old.0,
        smallest_same
            (λ px py. ⊎_elim inl (λ h. inr (longer h)))
            (λ px py. ⊎_elim inl (λ h. ⊎_elim inr (λ k. absurd (let z : true ≡ false = cc in false≢true (cc))) (last t h)))
            old.1,
      ))

-- ---- Masks

-- j is the module of a node of 1..n to which the arc leads
pub record LedModule (leads : ℕ → Bool) (modules : List ℕ) (n j : ℕ) : Type 0 where
  pub node : ℕ
  pub low : 1 ≤ node
  pub high : node ≤ n
  pub leading : leads node ≡ true
  pub inside : at modules node ≡ j

-- a mask of 32 bits whose modules are those with P
abbrev Lights : (ℕ → Type 0) → ℕ → Type 0
Lights P mask = (mask < 2 ^ 32) × ((j : ℕ) → Has mask j ↔ P j)

-- the modules of the nodes 1..n are numbers from 1 to 32
abbrev pub ModulesIn : List ℕ → ℕ → Type 0
ModulesIn modules n = (t : ℕ) → 1 ≤ t → t ≤ n → (1 ≤ at modules t) × (at modules t ≤ 32)

module _ (leads : ℕ → Bool) (modules : List ℕ) where
  module_longer : {t j : ℕ} → LedModule leads modules t j → LedModule leads modules (suc t) j
  module_longer h = record { node = h.node; low = h.low; high = omega (arith, h.high); leading = h.leading; inside = h.inside }

  module_last : (t : ℕ) {j : ℕ} → LedModule leads modules (suc t) j → LedModule leads modules t j ⊎ ((leads (suc t) ≡ true) × (at modules (suc t) ≡ j))
  module_last t h = elim (ℕ_discrete h.node (suc t)) [
    | yes e ↦ inr (rw e at h.leading, rw e at h.inside)
    | no e ↦ inl (record { node = h.node; low = h.low; high = omega (arith, h.high); leading = h.leading; inside = h.inside })
  ]

  pub lighted_by : (n : ℕ) → ModulesIn modules n → Lights (LedModule leads modules n) (gathered leads (add_module modules) n 0)
  unfolding gathered add_if
  lighted_by zero numbers = (omega arith, λ j. ((λ h. absurd (no_module j h)), (λ h. absurd (omega (arith, h.low, h.high)))))
  lighted_by (suc t) numbers =
      let old = lighted_by t (λ i low high. numbers i low (omega arith)) in
      let here = numbers (suc t) (omega arith) (omega arith) in
      cond_both (leads (suc t)) _ _ (Lights (LedModule leads modules (suc t)))
      (λ yes. (
        lighted_small _ _ here.1 old.0,
        λ j.
            let k = lighted_has (gathered leads (add_module modules) t 0) (at modules (suc t)) here.0 j in (
              (λ h. ⊎_elim (λ p. module_longer ((old.1 j).0 p)) (λ p. record { node = suc t; low = omega arith; high = omega arith; leading = yes; inside = sym p }) (k.0 h)),
              (λ h. k.1 (⊎_elim (λ p. inl ((old.1 j).1 p)) (λ p. inr (sym p.1)) (module_last t h))),
            ),
      ))
      (λ not. (
        old.0,
        λ j. (
          (λ h. module_longer ((old.1 j).0 h)),
          (λ h. (old.1 j).1 (⊎_elim (λ p. p) (λ p. absurd (false≢true (sym not ∙ p.0))) (module_last t h))),
        ),
      ))
