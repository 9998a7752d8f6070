-- Laws of what the writers promise.
use Prim.Native.Nat.{ℕ, suc, ◌-◌, ◌≤◌, ◌<◌}
use mathlib.Core.Path.{◌≡◌, refl, ap}
use mathlib.Core.Bool.{true, ◌&&◌}
use mathlib.Core.List.{List, ◌++◌}
use native.Mathlib.Omega.{arith}
use Rattle.std.specs.Prelude.{Result, Ok, Err}
use lib.Dec.{leb}
use lib.IntN.{ℤ, pos}
use lib.Signed.{◌≤ℤ◌, le_z, le_z_yes}
use lib.ListN.{length, drop, get_or}
use borrow.Author.Tests.{le-leb, lt-leb, leb-true}
use Rattle.rules.specs.Limits.{least_coordinate, most_coordinate}
use Rattle.rules.specs.Judging.{Judged, fine, or_else, passes}
use Rattle.rules.proofs.AndLaws.{and_true}
use Rattle.rules.proofs.JudgingLaws.{both_fine, nothing_follows, passed, each_passes}
use Rattle.rules.specs.declared.Refusal.{Refusal}
use Rattle.rules.specs.declared.Refusal.TheVariants.{RowTooShort, BeyondLimits, BadCoordinate}
use Rattle.geometry.specs.Box.{within_b}
use Rattle.walks.specs.Rows.{Rows, Sound, SoundArc}
use Rattle.dimacs.specs.Accepted.{GrLimits, CoLimits}
use Rattle.judging.proofs.StageLaws.{arcs_fine_open}
use Rattle.judging.specs.Order.{lengths, good_place, coordinates, arcs_judged}
use Rattle.writing.specs.Text.{gr_text, co_text}
use Rattle.writing.specs.Writes.{gr_write_judged, places_judged, co_write_judged, Writes}
use Rattle.writing.proofs.LengthLaws.{gr_most, co_most}

-- ---- bytes that are handed over

module _ (bytes row : List ℕ) where
  pub not_handed : length row < length bytes → Writes (lengths (leb (length bytes) (length row))) bytes row (Err RowTooShort) row
  not_handed h = rw (lt-leb _ _ h) (record { reply = refl; left = refl })

  pub handed : (r : ℕ) (after : List ℕ) → length bytes ≤ length row → r ≡ length bytes → after ≡ bytes ++ drop (length bytes) row → Writes (lengths (leb (length bytes) (length row))) bytes row (Ok r) after
  handed r after h e p = rw (le-leb _ _ h, e) (record { reply = refl; left = p })

-- ---- judgements in parts

pub gr_judged : (n m : ℕ) (R : Rows) (room : ℕ) → gr_write_judged n m R room ≡ or_else (arcs_judged n m R true) (lengths (leb (length (gr_text n m R)) room))
unfolding gr_write_judged
gr_judged n m R room = ap (or_else (arcs_judged n m R true)) (nothing_follows _)

pub co_judged : (n : ℕ) (x y : List ℤ) (room : ℕ) → co_write_judged n x y room ≡ or_else (places_judged n x y) (lengths (leb (length (co_text n x y)) room))
unfolding co_write_judged
co_judged n x y room = ap (or_else (places_judged n x y)) (nothing_follows _)

-- a call that is refused before its text is looked at, and one that is not
pub writes_out : (j whole last : Judged) {refusal : Refusal} {r : Result ℕ Refusal} (text row : List ℕ) → whole ≡ or_else j last → j ≡ Err refusal → r ≡ Err refusal → Writes whole text row r row
writes_out j whole last text row e h k = rw (e, h, k) (record { reply = refl; left = refl })

pub writes_on : (j whole last : Judged) (text row : List ℕ) (r : Result ℕ Refusal) (after : List ℕ) → whole ≡ or_else j last → j ≡ Ok tt → Writes last text row r after → Writes whole text row r after
writes_on j whole last text row r after e h w = rw (e, h) w

-- the network's limits, where it was judged fine
pub gr_limits : (n m : ℕ) (R : Rows) → Sound n m R → GrLimits n m R.tails R.heads R.weights
gr_limits n m R s =
    let one : (i : ℕ) → suc i - 1 ≡ i = λ i. omega arith in
    let arc : (i : ℕ) → i < m → SoundArc n (get_or R.tails i 0) (get_or R.heads i 0) (get_or R.weights i 0) = λ i h. rw (one i) at (s.arcs (suc i) (omega arith) h) in
    record {
      some_node = s.nodes_low;
      nodes = s.nodes_high;
      arcs = s.arcs_high;
      tail_least = λ i h. (arc i h).tail_low;
      tail_most = λ i h. (arc i h).tail_high;
      head_least = λ i h. (arc i h).head_low;
      head_most = λ i h. (arc i h).head_high;
      weight = λ i h. (arc i h).weight_high;
    }

-- the same of coordinates
coordinates_limits : (n : ℕ) (x y : List ℤ) → coordinates n x y ≡ fine → CoLimits n x y
coordinates_limits n x y e =
    let one : (i : ℕ) → suc i - 1 ≡ i = λ i. omega arith in
    let good = each_passes (good_place x y) BadCoordinate n e in
    let both : (i : ℕ) → i < n → (within_b (get_or x i (pos 0)) ≡ true) × (within_b (get_or y i (pos 0)) ≡ true) = λ i h.
    and_true (within_b (get_or x i (pos 0))) (within_b (get_or y i (pos 0))) (rw (one i) at (good (suc i) (omega arith) h)) in
    record {
      x_least = λ i h. low (get_or x i (pos 0)) (both i h).0;
      x_most = λ i h. high (get_or x i (pos 0)) (both i h).0;
      y_least = λ i h. low (get_or y i (pos 0)) (both i h).1;
      y_most = λ i h. high (get_or y i (pos 0)) (both i h).1;
    }
  where
    low : (z : ℤ) → within_b z ≡ true → least_coordinate ≤ℤ z
    low z e = let p = and_true (le_z least_coordinate z) (le_z z most_coordinate) e in le_z_yes (rw p.0 tt)

    high : (z : ℤ) → within_b z ≡ true → z ≤ℤ most_coordinate
    high z e = let p = and_true (le_z least_coordinate z) (le_z z most_coordinate) e in le_z_yes (rw p.1 tt)

-- n, the rows' lengths and the coordinates, where they were judged fine
pub record Placed (n : ℕ) (x y : List ℤ) : Type 0 where
  pub some : 1 ≤ n
  pub few : n ≤ 512
  pub x_long : n ≤ length x
  pub y_long : n ≤ length y
  pub limits : CoLimits n x y

pub places_fine : (n : ℕ) (x y : List ℤ) → places_judged n x y ≡ fine → Placed n x y
unfolding places_judged
places_fine n x y e =
    let a = both_fine (passes (leb 1 n && leb n 512) (BeyondLimits 0)) _ e in
    let b = both_fine (lengths (leb n (length x) && leb n (length y))) _ a.1 in
    let c = both_fine (coordinates n x y) fine b.1 in
    let p = and_true (leb 1 n) (leb n 512) (passed _ _ a.0) in
    let q = and_true (leb n (length x)) (leb n (length y)) (passed _ _ b.0) in
    record { some = leb-true _ _ p.0; few = leb-true _ _ p.1; x_long = leb-true _ _ q.0; y_long = leb-true _ _ q.1; limits = coordinates_limits n x y c.0 }

-- ---- there is room on the page

pub gr_fine : (n m : ℕ) (R : Rows) → arcs_judged n m R true ≡ fine
    → (m ≤ length R.tails) × (m ≤ length R.heads) × (m ≤ length R.weights) × (length (gr_text n m R) ≤ 36878)
unfolding gr_text
gr_fine n m R e =
    let s = (arcs_fine_open n m R true e).0 in
    (s.tails_long, s.heads_long, s.weights_long, gr_most n m R.tails R.heads R.weights (gr_limits n m _ s))

pub co_fine : (n : ℕ) (x y : List ℤ) → places_judged n x y ≡ fine → (n ≤ length x) × (n ≤ length y) × (length (co_text n x y) ≤ 36878)
co_fine n x y e =
    let f = places_fine n x y e in
    let most = co_most n f.few x y f.limits in
    (f.x_long, f.y_long, omega arith)
