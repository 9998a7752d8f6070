-- Mending the places above one whose key has changed.
use Prim.Native.Nat.{ℕ, ◌+◌, ◌*◌, ◌/◌, ◌<◌, ◌≤◌}
use native.Mathlib.Omega.{arith}
use native.Mathlib.Decide.{ℕ_discrete}
use mathlib.Core.Path.{◌≡◌, ◌∙◌}
use mathlib.Core.Logic.{◌≢◌}
use mathlib.Core.List.{List}
use lib.ListN.{length, length-set, get_or, set}
use lib.Seq.{get_or-set_same, get_or-set_other}
use Rattle.std.specs.Prelude.{min}
use Rattle.frontier.specs.Tree.{Mended, SameLeaves}

-- mended, but perhaps not at the place above i
pub record But (t : List ℕ) (i : ℕ) : Type 0 where
  pub long : length t ≡ 1_024
  pub lesser : (p : ℕ) → 1 ≤ p → p < 512 → p ≢ i / 2 → get_or t p 0 ≡ min (get_or t (2 * p) 0) (get_or t (2 * p + 1) 0)

kept : (t : List ℕ) (i x p : ℕ) → p ≢ i → 2 * p ≢ i → 2 * p + 1 ≢ i → get_or t p 0 ≡ min (get_or t (2 * p) 0) (get_or t (2 * p + 1) 0)
    → get_or (set t i x) p 0 ≡ min (get_or (set t i x) (2 * p) 0) (get_or (set t i x) (2 * p + 1) 0)
kept t i x p a b c h = rw (get_or-set_other t i p x 0 a, get_or-set_other t i (2 * p) x 0 b, get_or-set_other t i (2 * p + 1) x 0 c) h

-- a leaf is changed
pub but_leaf : {t : List ℕ} → Mended t → (i x : ℕ) → 512 ≤ i → But (set t i x) i
but_leaf {t} h i x low = record {
  long = rw length-set h.long;
  lesser = λ p one up other. kept t i x p (λ e. omega arith) (λ e. other (omega arith)) (λ e. other (omega arith)) (h.lesser p one up);
}

module _ {t : List ℕ} {i : ℕ} (h : But t i) where
  pub but_done : i ≤ 1 → Mended t
  but_done low = record { long = h.long; lesser = λ p one up. h.lesser p one up (λ e. omega arith) }

  module _ (low : 1 < i) (high : i < 1_024) (y : ℕ) (lesser : y ≡ min (get_or t (2 * (i / 2)) 0) (get_or t (2 * (i / 2) + 1) 0)) where
    -- the place above i has the lesser already
    pub but_stop : get_or t (i / 2) 0 ≡ y → Mended t
    but_stop e = record {
      long = h.long;
      lesser = λ p one up. elim (ℕ_discrete p (i / 2)) [ yes q ↦ rw q (e ∙ lesser) | no q ↦ h.lesser p one up q ];
    }

    -- or it is given to it
    pub but_turn : But (set t (i / 2) y) (i / 2)
    but_turn = record {
      long = rw length-set h.long;
      lesser = λ p one up other. elim (ℕ_discrete p (i / 2)) [
        | yes q ↦
            let a = i / 2 in
            let s : get_or (set t a y) a 0 ≡ y = get_or-set_same t a y 0 (omega (arith, h.long)) in
            let l : get_or (set t a y) (2 * a) 0 ≡ get_or t (2 * a) 0 = get_or-set_other t a (2 * a) y 0 (λ e. omega arith) in
            let r : get_or (set t a y) (2 * a + 1) 0 ≡ get_or t (2 * a + 1) 0 = get_or-set_other t a (2 * a + 1) y 0 (λ e. omega arith) in
            rw q (rw (s, l, r) lesser)
        | no q ↦ kept t (i / 2) y p q (λ e. other (omega arith)) (λ e. other (omega arith)) (h.lesser p one up q)
      ];
    }

-- the leaves stay
pub leaves_above : {T t : List ℕ} (i y : ℕ) → i < 1_024 → SameLeaves T t → SameLeaves T (set t (i / 2) y)
leaves_above {T} {t} i y high s = record { leaf = λ p low. get_or-set_other t (i / 2) p y 0 (λ e. omega arith) ∙ s.leaf p low }
