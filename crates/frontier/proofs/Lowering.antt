-- Lowering a leaf's key: the places above it get the new key as far as theirs are greater.
use Prim.Native.Nat.{ℕ, ◌+◌, ◌*◌, ◌/◌, ◌<◌, ◌≤◌}
use native.Mathlib.Omega.{arith}
use native.Mathlib.Decide.{ℕ_discrete}
use mathlib.Core.Path.{◌≡◌, refl, sym, ap, ◌∙◌}
use mathlib.Core.Logic.{◌≢◌, ◌⊎◌, inl, inr}
use mathlib.Core.List.{List}
use lib.ListN.{get_or, set}
use lib.Seq.{get_or-set_same, get_or-set_other}
use Rattle.std.specs.Prelude.{min}
use Rattle.frontier.specs.Tree.{Mended}
use Rattle.frontier.proofs.Keys.{min_one, min_eq}
use Rattle.frontier.proofs.Mending.{But, but_leaf, but_stop, but_turn}

-- the place h above i, whose key became x and was no less: h is no greater than i's fellow, and no less than x or as its fellow
pub record Above (t : List ℕ) (i x h : ℕ) : Type 0 where
  pub left : i ≢ 2 * h → get_or t h 0 ≤ get_or t (2 * h) 0
  pub right : i ≢ 2 * h + 1 → get_or t h 0 ≤ get_or t (2 * h + 1) 0
  pub some : (x ≤ get_or t h 0) ⊎ (((i ≢ 2 * h) × (get_or t h 0 ≡ get_or t (2 * h) 0)) ⊎ ((i ≢ 2 * h + 1) × (get_or t h 0 ≡ get_or t (2 * h + 1) 0)))

pub record Lowered (t : List ℕ) (i x : ℕ) : Type 0 where
  pub but : But t i
  pub own : get_or t i 0 ≡ x
  pub above : 1 < i → Above t i x (i / 2)

above_set : (t : List ℕ) (i x h : ℕ) → 1 ≤ h → h ≢ i → get_or t h 0 ≡ min (get_or t (2 * h) 0) (get_or t (2 * h + 1) 0) → x ≤ get_or t i 0 → Above (set t i x) i x h
above_set t i x h one n e low =
    let z : get_or (set t i x) h 0 ≡ get_or t h 0 = get_or-set_other t i h x 0 n in
    record {
      left = λ q. let a = get_or-set_other t i (2 * h) x 0 (λ w. q (sym w)) in omega (arith, z, a, e);
      right = λ q. let a = get_or-set_other t i (2 * h + 1) x 0 (λ w. q (sym w)) in omega (arith, z, a, e);
      some = elim (min_one (get_or t (2 * h) 0) (get_or t (2 * h + 1) 0)) [
        | inl f ↦ elim (ℕ_discrete i (2 * h)) [
          | yes q ↦ inl (let y = ap (λ (w : ℕ). get_or t w 0) q in omega (arith, z, e, f, y, low))
          | no q ↦ inr (inl (q, (let a = get_or-set_other t i (2 * h) x 0 (λ w. q (sym w)) in omega (arith, z, e, f, a))))
        ]
        | inr f ↦ elim (ℕ_discrete i (2 * h + 1)) [
          | yes q ↦ inl (let y = ap (λ (w : ℕ). get_or t w 0) q in omega (arith, z, e, f, y, low))
          | no q ↦ inr (inr (q, (let a = get_or-set_other t i (2 * h + 1) x 0 (λ w. q (sym w)) in omega (arith, z, e, f, a))))
        ]
      ];
    }

pub lowered_leaf : {t : List ℕ} → Mended t → (i x : ℕ) → 512 ≤ i → i < 1_024 → x ≤ get_or t i 0 → Lowered (set t i x) i x
lowered_leaf {t} h i x low high le = record {
  but = but_leaf h i x low;
  own = get_or-set_same t i x 0 (omega (arith, h.long));
  above = λ one. above_set t i x (i / 2) (omega arith) (λ e. omega arith) (h.lesser (i / 2) (omega arith) (omega arith)) le;
}

module _ {t : List ℕ} {i x : ℕ} (h : Lowered t i x) (low : 1 < i) (high : i < 1_024) where
  -- one of the two places below is i, which has x
  side : (i ≡ 2 * (i / 2)) ⊎ (i ≡ 2 * (i / 2) + 1)
  side = elim (ℕ_discrete i (2 * (i / 2))) [ yes e ↦ inl e | no e ↦ inr (omega arith) ]

  below_left : (get_or t (i / 2) 0 ≤ get_or t (2 * (i / 2)) 0) ⊎ (get_or t (2 * (i / 2)) 0 ≡ x)
  below_left = elim (ℕ_discrete i (2 * (i / 2))) [ yes e ↦ inr (ap (λ (w : ℕ). get_or t w 0) (sym e) ∙ h.own) | no e ↦ inl ((h.above low).left e) ]

  below_right : (get_or t (i / 2) 0 ≤ get_or t (2 * (i / 2) + 1) 0) ⊎ (get_or t (2 * (i / 2) + 1) 0 ≡ x)
  below_right = elim (ℕ_discrete i (2 * (i / 2) + 1)) [ yes e ↦ inr (ap (λ (w : ℕ). get_or t w 0) (sym e) ∙ h.own) | no e ↦ inl ((h.above low).right e) ]

  own_side : (y : ℕ) → y ≡ x → (y ≡ get_or t (2 * (i / 2)) 0) ⊎ (y ≡ get_or t (2 * (i / 2) + 1) 0)
  own_side y q = elim side [
    | inl e ↦ inl (q ∙ (sym h.own ∙ ap (λ (w : ℕ). get_or t w 0) e))
    | inr e ↦ inr (q ∙ (sym h.own ∙ ap (λ (w : ℕ). get_or t w 0) e))
  ]

  pub lowered_stop : get_or t (i / 2) 0 ≤ x → Mended t
  lowered_stop le =
      let a = i / 2 in
      let l : get_or t a 0 ≤ get_or t (2 * a) 0 = elim (below_left) [ inl p ↦ p | inr p ↦ omega arith ] in
      let r : get_or t a 0 ≤ get_or t (2 * a + 1) 0 = elim below_right [ inl p ↦ p | inr p ↦ omega arith ] in
      let s : (get_or t a 0 ≡ get_or t (2 * a) 0) ⊎ (get_or t a 0 ≡ get_or t (2 * a + 1) 0) = elim (h.above low).some [
        | inl p ↦ own_side (get_or t a 0) (omega arith)
        | inr p ↦ elim p [ inl q ↦ inl q.1 | inr q ↦ inr q.1 ]
      ] in
      but_stop h.but low high (get_or t a 0) (min_eq _ _ l r s) refl

  pub lowered_turn : x < get_or t (i / 2) 0 → Lowered (set t (i / 2) x) (i / 2) x
  lowered_turn lt =
      let a = i / 2 in
      let l : x ≤ get_or t (2 * a) 0 = elim (below_left) [ inl p ↦ omega arith | inr p ↦ omega arith ] in
      let r : x ≤ get_or t (2 * a + 1) 0 = elim below_right [ inl p ↦ omega arith | inr p ↦ omega arith ] in
      record {
        but = but_turn h.but low high x (min_eq _ _ l r (own_side x refl));
        own = get_or-set_same t a x 0 (omega (arith, h.but.long));
        above = λ one. above_set t a x (a / 2) (omega arith) (λ e. omega arith) (h.but.lesser (a / 2) (omega arith) (omega arith) (λ e. omega arith)) (omega arith);
      }
