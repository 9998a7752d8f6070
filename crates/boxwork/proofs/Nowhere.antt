-- Tracks that lead nowhere need no box.
use Prim.Native.Nat.{ℕ}
use mathlib.Core.Path.{◌≡◌, refl, sym, subst}
use mathlib.Core.Logic.{◌↔◌, inl, inr, ⊎_elim}
use mathlib.Core.List.{List}
use native.Mathlib.Omega.{arith}
use lib.IntN.{ℤ}
use Rattle.walks.specs.Walk.{Net}
use Rattle.walks.specs.Rows.{Rows}
use Rattle.walks.specs.Through.{InS}
use Rattle.walks.proofs.WalkLaws.{single}
use Rattle.walks.proofs.LeastLaws.{best_start, best_dist, first_part, dist_sized}
use Rattle.geometry.specs.Box.{Box, Holds, Upright, mark, WellShaped, nothing}
use Rattle.geometry.specs.Row.{box_of}
use Rattle.geometry.proofs.Order.{≤ℤ-trans}
use Rattle.geometry.proofs.SmallestLaws.{low_corner, smallest_same, smallest_self, smallest_unique}
use Rattle.geometry.proofs.MarkLaws.{mark-none, mark_test, reversed_mark, shaped_unique}
use Rattle.geometry.proofs.Tests.{shaped_yes, yes_shaped}
use Rattle.passing.specs.Signs.{boxes_alone, box_signs}
use Rattle.judging.proofs.FineLaws.{build_fine, check_fine, update_fine}
use Rattle.boxwork.specs.Tight.{Tight, Updated}
use Rattle.boxwork.specs.Nowhere.{Nowhere, MarkHoldsNothing, OnlyTheMark, TenExactly, Tight01, NowhereMark, ClosedMark, BoxAsBefore, MarkTakes, MarkAddsNothing, OnlyEnlarges}
use Rattle.boxwork.proofs.TightLaws.{InS_range, around_none, around_mark, updated_encloses}
use Rattle.boxwork.proofs.Accepting.{build_accepts, update_accepts}
use Rattle.boxwork.proofs.Closing.{closed_empty}

-- ---- The mark

pub mark_holds_nothing : MarkHoldsNothing
mark_holds_nothing px py = (mark-none px py, mark_test px py)

pub only_the_mark : OnlyTheMark
only_the_mark b = ((λ h. reversed_mark h.0 h.1), (λ e. (nothing e, λ u. mark-none _ _ (reversed e u))))
  where
    reversed : {c : Box} → c ≡ mark → Upright c → Holds mark mark.left mark.low
    reversed e u = low_corner (subst Upright e u)

pub ten_exactly : TenExactly
ten_exactly boxes e = (shaped_yes (box_of boxes e), yes_shaped (box_of boxes e))

-- ---- The tight box of 01

-- if some node is in S(e), the head is: from the tail there is no shorter way to it, or there were one to that node
pub InS_head : {N : Net} {e t : ℕ} → InS N e t → InS N e (N.head e)
InS_head {N} {e} i = record {
  rest = 0;
  arc = i.arc;
  from_head = best_dist (best_start N (N.head e));
  from_tail = dist_sized (omega arith) (first_part (single e i.arc) i.from_head.walk i.from_tail);
}

-- a box that holds a place is upright
holds_upright : {b : Box} {px py : ℤ} → Holds b px py → Upright b
holds_upright h = record { across = ≤ℤ-trans h.west h.east; upward = ≤ℤ-trans h.south h.north }

module _ {N : Net} {x y : List ℤ} {e t : ℕ} (i : InS N e t) where
  tight_before : {b : Box} → Tight N x y e b → Tight01 N x y e b
  tight_before p = record {
    smallest = smallest_same (λ px py s. inr s)
        (λ px py. ⊎_elim (λ h. record { node = N.head e; member = InS_head i; place = h }) (λ s. s))
        p.smallest;
  }

  before_upright : {b : Box} → Tight01 N x y e b → Upright b
  before_upright p = holds_upright (p.smallest.holds _ _ (inl (refl, refl)))

  before_exactly : {b : Box} → Tight N x y e b → (c : Box) → Tight01 N x y e c ↔ (c ≡ b)
  before_exactly {b} p c =
      let q = tight_before p in
      ((λ r. smallest_unique (before_upright r) (before_upright q) r.smallest q.smallest), (λ h. subst (Tight01 N x y e) (sym h) q))

-- ---- What a build writes

module _ (n m : ℕ) (R : Rows) (x y before boxes : List ℤ) where
  pub nowhere_mark : NowhereMark n m R x y before boxes
  nowhere_mark b e low high = let t = ((build_accepts b refl).1.drawn refl).entries e low high in (around_mark t, around_none t)

  pub closed-mark : ClosedMark n m R x y before boxes
  closed-mark b e low high shut = (nowhere_mark b e low high).1 (λ t. closed_empty n m R e t shut)

  pub box_as_before : BoxAsBefore n m R x y before boxes
  box_as_before b e t i =
      let h = build_accepts b refl in
      let r = InS_range (build_fine boxes_alone n m R (box_signs x y before) h.0).sound i in
      before_exactly i ((h.1.drawn refl).entries e r.0 r.1)

-- ---- What an update makes of a box

module _ {N : Net} {x y : List ℤ} {e : ℕ} where
  mark_takes' : {old new : Box} → old ≡ mark → Updated N x y e old new → Tight N x y e new
  mark_takes' {old} {new} q p = subst (Tight N x y e) same p.is_tight
    where
      same : p.tight ≡ new
      same =
          shaped_unique p.is_tight.shaped p.shaped (smallest_self p.tight)
          (smallest_same (λ px py. ⊎_elim (λ h. absurd (mark-none px py (subst (λ (z : Box). Holds z px py) q h))) (λ h. h)) (λ px py h. inr h) p.smallest)

  mark_adds' : {old new : Box} → WellShaped old → Nowhere N e → Updated N x y e old new → new ≡ old
  mark_adds' {old} shaped none p =
      let empty = around_none p.is_tight none in
      shaped_unique p.shaped shaped
      (smallest_same (λ px py. ⊎_elim (λ h. h) (λ h. absurd (mark-none px py (subst (λ (z : Box). Holds z px py) empty h)))) (λ px py h. inl h) p.smallest)
      (smallest_self old)

module _ (n m : ℕ) (R : Rows) (x y before : List ℤ) (arc weight closure : ℕ) (R' : Rows) (boxes : List ℤ) where
  pub mark_takes : MarkTakes n m R x y before arc weight closure R' boxes
  mark_takes u e low high q = let h = update_accepts u refl in rw h.1 (mark_takes' q (h.2.entries e low high))

  pub mark_adds_nothing : MarkAddsNothing n m R x y before arc weight closure R' boxes
  mark_adds_nothing u e low high none =
      let h = update_accepts u refl in
      let shaped = (check_fine boxes_alone n m R (box_signs x y before) (update_fine boxes_alone n m R (box_signs x y before) arc weight closure h.0).0).shaped refl in
      mark_adds' (shaped.each e low high) (rw h.1 at none) (h.2.entries e low high)

  pub only_enlarges : OnlyEnlarges n m R x y before arc weight closure R' boxes
  only_enlarges u e low high = updated_encloses ((update_accepts u refl).2.entries e low high)
