-- Surplus is neither read nor written: a list is the list over the rows cut to the places that it needs, and the places of the row of
-- answers beyond 256 keep their contents.
use Prim.Native.Nat.{ℕ, ◌*◌, ◌≤◌}
use mathlib.Core.Path.{◌≡◌, refl, ◌∙◌}
use mathlib.Core.List.{List, [], ◌∷◌, map}
use native.Mathlib.Omega.{arith}
use lib.IntN.{ℤ}
use lib.ListN.{length, take, drop, length-map}
use Rattle.rules.specs.Paper.{Reply}
use Rattle.scan.specs.declared.holding.Numbers.{Numbers}
use Rattle.dimacs.specs.Texts.{read}
use Rattle.dimacs.specs.Reading.{read_p2p}
use Rattle.dimacs.proofs.Accepted.{p2p_count, p2p_read}
use Rattle.walks.specs.Rows.{Rows}
use Rattle.passing.specs.Signs.{boxes_alone, box_signs}
use Rattle.judging.specs.Cut.{cut}
use Rattle.judging.specs.Order.{placed_by, shaped_by, check_judged, day_judged}
use Rattle.judging.proofs.CutLaws.{long_cut, check_judged_cut}
use Rattle.search.proofs.Networks.{answers_alike}
use Rattle.search.proofs.Surplus.{row_cut, passing-cut}
use Rattle.daylist.specs.Replies.{Replies, then, entry}
use Rattle.daylist.specs.Says.{DaySays, text_refused, rows-refused, answered}
use Rattle.daylist.proofs.ReplyLaws.{replies_long}
use Rattle.daylist.proofs.Claims.{Named, named_rest, read_named, day_unique}

-- the text is judged alike
text_cut : (text : List ℕ) (n : ℕ) (before : List ℕ) → read_p2p text n (take 256 before) ≡ read_p2p text n before
unfolding read_p2p
text_cut text n before = rw (long_cut 256 before)

module _ (n m : ℕ) (R : Rows) (x y boxes : List ℤ) where
  rows_cut : day_judged boxes_alone n m (cut m R) (box_signs (take n x) (take n y) (take (4 * m) boxes)) ≡ day_judged boxes_alone n m R (box_signs x y boxes)
  unfolding placed_by shaped_by check_judged day_judged
  rows_cut = check_judged_cut n m R boxes_alone (box_signs x y boxes)

  replies_cut : (queries : List Numbers) {replies : List Reply} → Named n queries → Replies n m R x y boxes queries replies
      → Replies n m (cut m R) (take n x) (take n y) (take (4 * m) boxes) queries replies
  replies_cut [] h Replies.none = Replies.none
  replies_cut (q ∷ queries) h (then a more) =
      let ends = h 0 (omega arith) in
      then (answers_alike (passing-cut boxes_alone n m R (box_signs x y boxes) q.second ends.2 ends.3) a) (replies_cut queries (named_rest n q queries h) more)

  module _ (text before : List ℕ) where
    -- a text that was read has at most 256 queries, and the row is long enough
    few : (problem : Numbers) (queries : List Numbers) → read_p2p text n before ≡ read problem queries → (length queries ≤ 256) × (256 ≤ length before)
    few problem queries e =
        let t = p2p_read text n before problem queries e in
        let c = p2p_count n text problem queries t.2 t.3 in
        (omega (arith, c.0, c.1), t.0)

    pub day_cut : {reply : Reply} {after : List ℕ} → DaySays text n m R x y boxes before reply after
        → DaySays text n m (cut m R) (take n x) (take n y) (take (4 * m) boxes) (take 256 before) reply (take 256 after) × (drop 256 after ≡ drop 256 before)
    day_cut (text_refused e) = (text_refused (text_cut text n before ∙ e), refl)
    day_cut (rows-refused e j) = (rows-refused (text_cut text n before ∙ e) (rows_cut ∙ j), refl)
    day_cut (answered {problem = problem} {queries = queries} {replies = replies} e j rs) =
        let f = few problem queries e in
        let k = length-map replies entry in
        let c = rw k at (row_cut (map entry replies) before 256 (omega (arith, k, replies_long rs, f.0)) f.1) in
        (rw c.0 (answered (text_cut text n before ∙ e) (rows_cut ∙ j) (replies_cut queries (read_named text n before problem queries e) rs)), c.1)

-- two calls whose rows agree on the places that are needed have the same reply and write the same
pub day_surplus : (text : List ℕ) (n m : ℕ) (R R' : Rows) (x x' y y' boxes boxes' : List ℤ) (before before' : List ℕ) {reply reply' : Reply} {after after' : List ℕ}
    → cut m R ≡ cut m R' → take n x ≡ take n x' → take n y ≡ take n y' → take (4 * m) boxes ≡ take (4 * m) boxes' → take 256 before ≡ take 256 before'
    → DaySays text n m R x y boxes before reply after → DaySays text n m R' x' y' boxes' before' reply' after' → (reply ≡ reply') × (take 256 after ≡ take 256 after')
day_surplus text n m R R' x x' y y' boxes boxes' before before' er ex ey eb ea p q =
    day_unique text n m (cut m R') (take n x') (take n y') (take (4 * m) boxes') (take 256 before') (rw (er, ex, ey, eb, ea) at (day_cut n m R x y boxes text before p).0)
    (day_cut n m R' x' y' boxes' text before' q).0
