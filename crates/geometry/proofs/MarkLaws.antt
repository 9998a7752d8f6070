-- The mark holds nothing; the smallest well-shaped box is one only, though there may be no place; and what takes in a place.
use Rattle.std.proofs.Common.{◌≡◌, false, ◌⊎◌, ℤ, sym, refl, ap, ◌∙◌, subst, inr, ⊎_elim}
use mathlib.Core.Bool.{false≢true}
use Rattle.rules.proofs.AndLaws.{same_test}
use Rattle.geometry.specs.Box.{Box, Holds, holds_b, Within, Upright, Sided, mark, WellShaped, sides, nothing, Smallest}
use Rattle.geometry.specs.Hull.{place_box, grown, taken}
use Rattle.geometry.proofs.Order.{≤ℤ-trans, smaller_both, larger_both}
use Rattle.geometry.proofs.SmallestLaws.{low_corner, smallest_unique, smallest_same, IsPlace, place_upright, place_smallest, grown_smallest, grown_upright}
use Rattle.geometry.proofs.Tests.{yes_le, holds_yes}

-- ---- The mark

pub mark-none : (x y : ℤ) → ¬ Holds mark x y
mark-none x y h = (≤ℤ-trans h.west h.east).le

-- nor does the test that searches make
pub mark_test : (x y : ℤ) → holds_b mark x y ≡ false
mark_test x y = same_test (holds_b mark x y) false (λ t. absurd (mark-none x y (holds_yes mark x y t))) (λ e. absurd (false≢true e))

-- of the well-shaped boxes only the mark has reversed sides
pub reversed_mark : {b : Box} → WellShaped b → ¬ Upright b → b ≡ mark
reversed_mark (sides s) h = absurd (h s.upright)
reversed_mark (nothing e) h = e

-- it is the smallest box around no place
pub none_smallest : {P : ℤ → ℤ → Type 0} → ((x y : ℤ) → ¬ P x y) → Smallest P mark
none_smallest none = record { holds = λ x y p. absurd (none x y p); least = λ c h x y k. absurd (mark-none x y k) }

-- ---- The smallest well-shaped box is one only

module _ {P : ℤ → ℤ → Type 0} where
  not_mark : {b c : Box} → Sided b → c ≡ mark → Smallest P b → Smallest P c → ⊥
  not_mark {b} {c} w p s m =
      mark-none _ _ (subst (λ (z : Box). Holds z b.left b.low) p (s.least c m.holds b.left b.low (low_corner w.upright)))

  pub shaped_unique : {b c : Box} → WellShaped b → WellShaped c → Smallest P b → Smallest P c → b ≡ c
  shaped_unique (sides v) (sides w) s t = smallest_unique v.upright w.upright s t
  shaped_unique (sides v) (nothing q) s t = absurd (not_mark v q s t)
  shaped_unique (nothing p) (sides w) s t = absurd (not_mark w p t s)
  shaped_unique (nothing p) (nothing q) s t = p ∙ sym q

  -- that of no place is the mark
  pub none-mark : {b : Box} → WellShaped b → Smallest P b → ((x y : ℤ) → ¬ P x y) → b ≡ mark
  none-mark w s none = shaped_unique w (nothing refl) s (none_smallest none)

  -- and where it is the mark there is no place
  pub mark_empty : {b : Box} → b ≡ mark → Smallest P b → (x y : ℤ) → ¬ P x y
  mark_empty e s x y p = mark-none x y (subst (λ (z : Box). Holds z x y) e (s.holds x y p))

-- ---- Taking in a place

place_sided : {px py : ℤ} → Within px → Within py → Sided (place_box px py)
place_sided {px} {py} in-x in-y = record { upright = place_upright px py; left_in = in-x; right_in = in-x; low_in = in-y; high_in = in-y }

module _ {b : Box} (px py : ℤ) where
  taken_sides : Sided b → taken b px py ≡ grown b px py
  unfolding taken
  taken_sides s = rw (yes_le b.left b.right s.upright.across) refl

  taken-mark : b ≡ mark → taken b px py ≡ place_box px py
  unfolding taken
  taken-mark e = ap (λ (z : Box). taken z px py) e

  pub taken_smallest : {P : ℤ → ℤ → Type 0} → WellShaped b → Smallest P b → Smallest (λ x y. P x y ⊎ IsPlace px py x y) (taken b px py)
  taken_smallest {P} (sides w) s =
      subst (Smallest (λ x y. P x y ⊎ IsPlace px py x y)) (sym (taken_sides w)) (grown_smallest px py w.upright s)
  taken_smallest {P} (nothing e) s =
      subst (Smallest (λ x y. P x y ⊎ IsPlace px py x y)) (sym (taken-mark e))
      (smallest_same (λ x y. inr) (λ x y. ⊎_elim (λ p. absurd (mark_empty e s x y p)) (λ h. h)) (place_smallest px py))

  module _ (in-x : Within px) (in-y : Within py) where
    grown_sided : Sided b → Sided (grown b px py)
    grown_sided w = record {
      upright = grown_upright px py w.upright;
      left_in = smaller_both Within w.left_in in-x;
      right_in = larger_both Within w.right_in in-x;
      low_in = smaller_both Within w.low_in in-y;
      high_in = larger_both Within w.high_in in-y;
    }

    pub taken_shaped : WellShaped b → WellShaped (taken b px py)
    taken_shaped (sides w) = subst WellShaped (sym (taken_sides w)) (sides (grown_sided w))
    taken_shaped (nothing e) = subst WellShaped (sym (taken-mark e)) (sides (place_sided in-x in-y))
