-- Rows cut to the places that a call needs are judged as the whole rows are.
use Prim.Native.Nat.{ℕ, ◌+◌, ◌-◌, ◌*◌, ◌≤◌}
use mathlib.Core.Path.{◌≡◌, sym, ap, ◌∙◌}
use mathlib.Core.Bool.{Bool, true}
use mathlib.Core.List.{List}
use native.Mathlib.Omega.{arith}
use native.Mathlib.Decide.{dec_le}
use borrow.Author.Tests.{le-leb, lt-leb}
use lib.IntN.{ℤ, pos}
use lib.ListN.{length, take, length-take}
use lib.Seq.{get_or-take}
use lib.Dec.{leb}
use Rattle.rules.specs.declared.Asked.{Asked}
use Rattle.rules.specs.declared.Refusal.TheVariants.{BadArc, BadClosure, BadCoordinate, BadModule, BadBox}
use Rattle.rules.proofs.JudgingLaws.{each_same}
use Rattle.geometry.specs.Box.{well_shaped_b}
use Rattle.geometry.specs.Row.{box_of, coordinate}
use Rattle.walks.specs.Rows.{Rows, at}
use Rattle.passing.specs.Signs.{Signs}
use Rattle.judging.specs.Cut.{cut, cut_signs}
use Rattle.judging.specs.Order.{arc_rows_long, box_rows_long, mask_rows_long, arcs, good_closure, closures, coordinates, module_numbers, shapes, arcs_judged, network_judged, placed_by, shaped_by, searched_by, search_judged, why_judged, build_judged, check_judged, update_judged}

-- ---- A row

-- it is long enough where the whole row is
pub long_cut {ℓ} : {A : Type ℓ} (m : ℕ) (row : List A) → leb m (length (take m row)) ≡ leb m (length row)
long_cut m row = elim (dec_le m (length row)) [
  | yes h ↦ le-leb m _ (omega (arith, length-take m row)) ∙ sym (le-leb m _ h)
  | no h ↦ lt-leb m _ (omega (arith, length-take m row)) ∙ sym (lt-leb m _ (omega arith))
]

-- and holds the same numbers, places and boxes
pub at_cut : (m : ℕ) (row : List ℕ) (i : ℕ) → 1 ≤ i → i ≤ m → at (take m row) i ≡ at row i
at_cut m row i low high = get_or-take m row (i - 1) 0 (omega arith)

pub place-cut : (n : ℕ) (row : List ℤ) (i : ℕ) → 1 ≤ i → i ≤ n → coordinate (take n row) i ≡ coordinate row i
place-cut n row i low high = get_or-take n row (i - 1) (pos 0) (omega arith)

pub box-cut : (m : ℕ) (boxes : List ℤ) (e : ℕ) → 1 ≤ e → e ≤ m → box_of (take (4 * m) boxes) e ≡ box_of boxes e
box-cut m boxes e low high =
    let i = 4 * (e - 1) in
    rw (
      get_or-take (4 * m) boxes i (pos 0) (omega arith),
      get_or-take (4 * m) boxes (i + 1) (pos 0) (omega arith),
      get_or-take (4 * m) boxes (i + 2) (pos 0) (omega arith),
      get_or-take (4 * m) boxes (i + 3) (pos 0) (omega arith),
    )

-- ---- The stages

module _ (n m : ℕ) (R : Rows) where
  arc_rows-cut : arc_rows_long m (cut m R) ≡ arc_rows_long m R
  arc_rows-cut = rw (long_cut m R.tails, long_cut m R.heads, long_cut m R.weights)

  arcs-cut : arcs n m (cut m R) ≡ arcs n m R
  arcs-cut =
      each_same _ _ BadArc m (λ i low high.
      rw (at_cut m R.tails i low high, at_cut m R.heads i low high, at_cut m R.weights i low high))

closures-cut : (m : ℕ) (row : List ℕ) → closures m (take m row) ≡ closures m row
closures-cut m row = each_same _ _ BadClosure m (λ i low high. ap good_closure (at_cut m row i low high))

module _ (n m : ℕ) (G : Signs) where
  box-rows-cut : box_rows_long n m (take n G.x) (take n G.y) (take (4 * m) G.boxes) ≡ box_rows_long n m G.x G.y G.boxes
  box-rows-cut = rw (long_cut n G.x, long_cut n G.y, long_cut (4 * m) G.boxes)

  mask_rows_cut : mask_rows_long n m (take n G.modules) (take m G.masks) ≡ mask_rows_long n m G.modules G.masks
  mask_rows_cut = rw (long_cut n G.modules, long_cut m G.masks)

  coordinates-cut : coordinates n (take n G.x) (take n G.y) ≡ coordinates n G.x G.y
  coordinates-cut = each_same _ _ BadCoordinate n (λ i low high. rw (place-cut n G.x i low high, place-cut n G.y i low high))

  modules_cut : module_numbers n (take n G.modules) ≡ module_numbers n G.modules
  modules_cut = each_same _ _ BadModule n (λ i low high. rw (at_cut n G.modules i low high))

  shapes-cut : shapes m (take (4 * m) G.boxes) ≡ shapes m G.boxes
  shapes-cut = each_same _ _ BadBox m (λ e low high. ap well_shaped_b (box-cut m G.boxes e low high))

-- ---- The calls

module _ (n m : ℕ) (R : Rows) where
  arcs_judged-cut : (others : Bool) → arcs_judged n m (cut m R) others ≡ arcs_judged n m R others
  unfolding arcs_judged
  arcs_judged-cut others = rw (arc_rows-cut n m R, arcs-cut n m R)

  network-cut : (others : Bool) → network_judged n m (cut m R) others ≡ network_judged n m R others
  unfolding network_judged
  network-cut others = rw (long_cut m R.closures, arcs_judged-cut, closures-cut m R.closures)

  pub why_judged-cut : (s t arc : ℕ) → why_judged n m (cut m R) s t arc ≡ why_judged n m R s t arc
  unfolding why_judged
  why_judged-cut s t arc = rw (network-cut true)

  module _ (asked : Asked) (G : Signs) where
    placed_cut : (others : Bool) → placed_by (network_judged n m (cut m R)) n m asked (cut_signs n m G) others ≡ placed_by (network_judged n m R) n m asked G others
    unfolding placed_by
    placed_cut others = rw (box-rows-cut n m G, mask_rows_cut n m G, network-cut, coordinates-cut n m G, modules_cut n m G)

    shaped_cut : (others : Bool) → shaped_by (network_judged n m (cut m R)) n m asked (cut_signs n m G) others ≡ shaped_by (network_judged n m R) n m asked G others
    unfolding shaped_by
    shaped_cut others = rw (placed_cut others, shapes-cut n m G)

    pub search_judged_cut : (s t : ℕ) (route : List ℕ)
        → search_judged asked n m (cut m R) (cut_signs n m G) s t (length (take n route)) ≡ search_judged asked n m R G s t (length route)
    unfolding searched_by search_judged
    search_judged_cut s t route = rw (long_cut n route, shaped_cut (leb n (length route)))

    pub build_judged_cut : build_judged asked n m (cut m R) (cut_signs n m G) ≡ build_judged asked n m R G
    unfolding build_judged
    build_judged_cut = placed_cut true

    pub check_judged_cut : check_judged asked n m (cut m R) (cut_signs n m G) ≡ check_judged asked n m R G
    unfolding check_judged
    check_judged_cut = shaped_cut true

    pub update_judged_cut : (arc weight closure : ℕ)
        → update_judged asked n m (cut m R) (cut_signs n m G) arc weight closure ≡ update_judged asked n m R G arc weight closure
    unfolding update_judged
    update_judged_cut arc weight closure = rw check_judged_cut
