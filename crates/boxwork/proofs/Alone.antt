-- What is not asked may be lent or not: build and check of boxes go by coordinates and boxes alone.
use Prim.Native.Nat.{ℕ}
use mathlib.Core.Path.{refl}
use mathlib.Core.Bool.{false≢true}
use mathlib.Core.List.{List}
use lib.IntN.{ℤ}
use Rattle.rules.specs.Paper.{Reply}
use Rattle.walks.specs.Walk.{Net}
use Rattle.walks.specs.Rows.{Rows}
use Rattle.walks.specs.Checking.{Misses}
use Rattle.passing.specs.Signs.{signs, boxes_alone, box_signs}
use Rattle.passing.specs.Passing.{Keeps}
use Rattle.judging.specs.Order.{placed_by, shaped_by, build_judged, check_judged}
use Rattle.boxwork.specs.Says.{Builds, Checks, BuildBy, CheckBy, BuildSays, CheckSays, masks_of}

module _ (n m : ℕ) (R : Rows) (x y boxes : List ℤ) (modules masks : List ℕ) where
  pub build_says : {reply : Reply} {boxes' : List ℤ} {masks' : List ℕ} → BuildBy boxes_alone n m R (signs x y boxes modules masks) reply boxes' masks'
      → BuildSays n m R x y boxes reply boxes'
  unfolding build_judged placed_by
  build_says (Builds.refused e) = Builds.refused e
  build_says (Builds.built f d d') = Builds.built f d (record { drawn = λ h. absurd (false≢true h); kept = λ h. refl })

  alone : {e t : ℕ} → Keeps boxes_alone (signs x y boxes modules masks) e t → Keeps boxes_alone (box_signs x y boxes) e t
  alone k = record { box = k.box; mask = λ h. absurd (false≢true h) }

  with_masks : {e t : ℕ} → Keeps boxes_alone (box_signs x y boxes) e t → Keeps boxes_alone (signs x y boxes modules masks) e t
  with_masks k = record { box = k.box; mask = λ h. absurd (false≢true h) }

  module _ {N : Net} where
    misses_alone : {e t : ℕ} → Misses N (Keeps boxes_alone (signs x y boxes modules masks)) e t → Misses N (Keeps boxes_alone (box_signs x y boxes)) e t
    misses_alone h = record { member = h.member; refused = λ k. h.refused (with_masks k) }

    misses-with : {e t : ℕ} → Misses N (Keeps boxes_alone (box_signs x y boxes)) e t → Misses N (Keeps boxes_alone (signs x y boxes modules masks)) e t
    misses-with h = record { member = h.member; refused = λ k. h.refused (alone k) }

    none-misses : {e t : ℕ} → Misses N (Keeps (masks_of boxes_alone) (signs x y boxes modules masks)) e t → ⊥
    none-misses h = h.refused (record { box = λ p. absurd (false≢true p); mask = λ p. absurd (false≢true p) })

  pub check_says : {reply : Reply} → CheckBy boxes_alone n m R (signs x y boxes modules masks) reply → CheckSays n m R x y boxes reply
  unfolding check_judged shaped_by placed_by
  check_says (Checks.refused e) = Checks.refused e
  check_says (Checks.consistent f c) = Checks.consistent f (record { keeps = λ e t i. alone (c.keeps e t i) })
  check_says (Checks.box_missed f h) = Checks.box_missed f (record {
    misses = misses_alone h.misses;
    lowest_arc = λ i j k. h.lowest_arc i j (misses-with k);
    lowest_node = λ j k. h.lowest_node j (misses-with k);
  })
  check_says (Checks.mask_missed f c h) = absurd (none-misses h.misses)
