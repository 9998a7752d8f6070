-- Request f: tracks that lead nowhere need no box. Each statement is proved, under the name that stands with it, in
-- proofs/Nowhere.antt.
use Rattle.std.specs.Prelude.{ℕ, ◌≤◌, ◌≡◌, ◌⊎◌, ◌↔◌, true, false, List, [], ℤ}
use Rattle.rules.specs.Paper.{accepted}
use Rattle.walks.specs.Walk.{Net}
use Rattle.walks.specs.Rows.{Rows, at, network}
use Rattle.walks.specs.Through.{InS}
use Rattle.geometry.specs.Box.{Box, Holds, holds_b, Upright, mark, WellShaped, Encloses, Smallest}
use Rattle.geometry.specs.Row.{box_of}
use Rattle.judging.specs.Order.{good_box}
use Rattle.boxwork.specs.Tight.{PlaceOf, PlaceIn, Tight}
use Rattle.boxwork.specs.Says.{BuildSays, UpdateSays}

-- S(e) is empty
abbrev pub Nowhere : Net → ℕ → Type 0
Nowhere N e = (t : ℕ) → ¬ InS N e t

-- ---- The mark

-- It "holds nothing": no place, and the test that searches make passes for none. `mark_holds_nothing`
abbrev pub MarkHoldsNothing : Type 0
MarkHoldsNothing = (px py : ℤ) → (¬ Holds mark px py) × (holds_b mark px py ≡ false)

-- "That mark is the only box with reversed sides which counts as well shaped." `only_the_mark`
abbrev pub OnlyTheMark : Type 0
OnlyTheMark = (b : Box) → (WellShaped b × (¬ Upright b)) ↔ (b ≡ mark)

-- "10 no longer covers the mark": it is told exactly of boxes that are not well shaped. `ten_exactly`
abbrev pub TenExactly : Type 0
TenExactly = (boxes : List ℤ) (e : ℕ) → (good_box boxes e ≡ true) ↔ WellShaped (box_of boxes e)

-- ---- What a build writes for the arcs 1..m

-- the tight box as 01 alone has it: the smallest that holds the head of e and all of S(e)
pub record Tight01 (N : Net) (x y : List ℤ) (e : ℕ) (b : Box) : Type 0 where
  pub smallest : Smallest (λ px py. PlaceOf x y (N.head e) px py ⊎ PlaceIn x y (InS N e) px py) b

module _ (n m : ℕ) (R : Rows) (x y before boxes : List ℤ) where
  -- the mark exactly where S(e) is empty, `nowhere_mark`
  abbrev pub NowhereMark : Type 0
  NowhereMark =
      BuildSays n m R x y before (accepted []) boxes → (e : ℕ) → 1 ≤ e → e ≤ m → (box_of boxes e ≡ mark) ↔ Nowhere (network m R) e

  -- so that "closed arcs get the mark from build", `closed-mark`
  abbrev pub ClosedMark : Type 0
  ClosedMark =
      BuildSays n m R x y before (accepted []) boxes → (e : ℕ) → 1 ≤ e → e ≤ m → at R.closures e ≡ 1 → box_of boxes e ≡ mark

  -- and where S(e) is not empty the one box that 01 alone has. `box_as_before`
  abbrev pub BoxAsBefore : Type 0
  BoxAsBefore =
      BuildSays n m R x y before (accepted []) boxes → (e t : ℕ) → InS (network m R) e t → (b : Box) → Tight01 (network m R) x y e b ↔ (b ≡ box_of boxes e)

-- ---- What an update makes of the boxes of the arcs 1..m

module _ (n m : ℕ) (R : Rows) (x y before : List ℤ) (arc weight closure : ℕ) (R' : Rows) (boxes : List ℤ) where
  -- "An update of an empty box takes the other box": the mark becomes the tight box, `mark_takes`
  abbrev pub MarkTakes : Type 0
  MarkTakes =
      UpdateSays n m R x y before arc weight closure (accepted []) R' boxes → (e : ℕ) → 1 ≤ e → e ≤ m → box_of before e ≡ mark
      → Tight (network m R') x y e (box_of boxes e)

  -- and a box whose tight box is the mark stays itself. `mark_adds_nothing`
  abbrev pub MarkAddsNothing : Type 0
  MarkAddsNothing =
      UpdateSays n m R x y before arc weight closure (accepted []) R' boxes → (e : ℕ) → 1 ≤ e → e ≤ m → Nowhere (network m R') e
      → box_of boxes e ≡ box_of before e

  -- "An update still only enlarges." `only_enlarges`
  abbrev pub OnlyEnlarges : Type 0
  OnlyEnlarges =
      UpdateSays n m R x y before arc weight closure (accepted []) R' boxes → (e : ℕ) → 1 ≤ e → e ≤ m → Encloses (box_of boxes e) (box_of before e)
