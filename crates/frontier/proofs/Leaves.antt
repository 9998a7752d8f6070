-- The leaves of a tree: place 1 has the least of their keys; how they are when one gets another key.
use Prim.Native.Nat.{ℕ, zero, suc, ◌+◌, ◌*◌, ◌-◌, ◌/◌, ◌<◌, ◌≤◌}
use native.Mathlib.Omega.{arith}
use native.Mathlib.Decide.{ℕ_discrete, dec_le}
use mathlib.Core.Path.{◌≡◌, refl, ap, ◌∙◌}
use mathlib.Core.Logic.{inl, inr}
use mathlib.Core.List.{List}
use lib.ListN.{length-replicate, get_or, get_or-replicate, replicate}
use lib.Seq.{get_or-set_same, get_or-set_other}
use Rattle.frontier.specs.Tree.{far, Mended, Rekeyed}
use Rattle.frontier.proofs.Keys.{min_one}

-- the leaf of which a place has its key
pub record Leaf (t : List ℕ) (x : ℕ) : Type 0 where
  pub place : ℕ
  pub high : place < 512
  pub same : x ≡ get_or t (512 + place) 0

module _ {t : List ℕ} (mended : Mended t) where
  root_low : (f p : ℕ) → p ≤ f → 1 ≤ p → p < 1_024 → get_or t 1 0 ≤ get_or t p 0
  root_low zero p h one up = absurd (omega arith)
  root_low (suc f) p h one up = elim (ℕ_discrete p 1) [
    | yes e ↦ rw e (omega arith)
    | no e ↦
        let q = p / 2 in
        let above = root_low f q (omega arith) (omega arith) (omega arith) in
        let m = mended.lesser q (omega arith) (omega arith) in
        elim (ℕ_discrete p (2 * q)) [
          | yes s ↦ let z = ap (λ (x : ℕ). get_or t x 0) s in omega (arith, above, m, z)
          | no s ↦
              let s' : p ≡ 2 * q + 1 = omega arith in
              let z = ap (λ (x : ℕ). get_or t x 0) s' in
              omega (arith, above, m, z)
        ]
  ]

  below : (f i : ℕ) → 1_024 ≤ f + i → 1 ≤ i → i < 1_024 → Leaf t (get_or t i 0)
  below zero i h one up = absurd (omega arith)
  below (suc f) i h one up = elim (dec_le 512 i) [
    | yes e ↦ let z : i ≡ 512 + (i - 512) = omega arith in record { place = i - 512; high = omega arith; same = ap (λ (x : ℕ). get_or t x 0) z }
    | no e ↦
        let m = mended.lesser i one (omega arith) in
        elim (min_one (get_or t (2 * i) 0) (get_or t (2 * i + 1) 0)) [
          | inl q ↦ let r = below f (2 * i) (omega arith) (omega arith) (omega arith) in record { place = r.place; high = r.high; same = m ∙ (q ∙ r.same) }
          | inr q ↦ let r = below f (2 * i + 1) (omega arith) (omega arith) (omega arith) in record { place = r.place; high = r.high; same = m ∙ (q ∙ r.same) }
        ]
  ]

  -- place 1 has a key no greater than any leaf's, and it is a leaf's
  pub root_least : (v : ℕ) → v < 512 → get_or t 1 0 ≤ get_or t (512 + v) 0
  root_least v h = root_low 1_024 (512 + v) (omega arith) (omega arith) (omega arith)

  pub root_leaf : Leaf t (get_or t 1 0)
  root_leaf = below 1_023 1 (omega arith) (omega arith) (omega arith)

  module _ {v x : ℕ} {t' : List ℕ} (r : Rekeyed t v x t') where
    pub leaf_same : v < 512 → get_or t' (512 + v) 0 ≡ x
    leaf_same h = r.leaves.leaf (512 + v) (omega arith) ∙ get_or-set_same t (512 + v) x 0 (omega (arith, mended.long))

    pub leaf_other : (w : ℕ) → (w ≡ v → ⊥) → get_or t' (512 + w) 0 ≡ get_or t (512 + w) 0
    leaf_other w n = r.leaves.leaf (512 + w) (omega arith) ∙ get_or-set_other t (512 + v) (512 + w) x 0 (λ e. n (omega arith))

-- a tree without nodes
pub mended_start : Mended (replicate 1_024 far)
mended_start = record {
  long = length-replicate 1_024 far;
  lesser = λ i low high.
      rw (get_or-replicate 1_024 i far 0 (omega arith), get_or-replicate 1_024 (2 * i) far 0 (omega arith), get_or-replicate 1_024 (2 * i + 1) far 0 (omega arith)) refl;
}
