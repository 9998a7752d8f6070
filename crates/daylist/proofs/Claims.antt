-- The claims of request g.
use Prim.Native.Nat.{ℕ, zero, suc, ◌≤◌, ◌<◌}
use mathlib.Core.Path.{◌≡◌, refl, sym, ap}
use mathlib.Core.Bool.{true}
use mathlib.Core.Logic.{◌↔◌}
use mathlib.Core.List.{List, [], ◌∷◌, ◌++◌, map}
use native.Mathlib.Omega.{arith}
use lib.IntN.{ℤ}
use lib.ListN.{length, get_or, drop, replicate}
use borrow.Author.Tests.{le-leb}
use Rattle.rules.specs.Paper.{Reply, accepted, refusal}
use Rattle.std.specs.Prelude.{Ok, Err}
use Rattle.rules.specs.Judging.{Judged, fine, or_else}
use Rattle.rules.proofs.PaperLaws.{refusal_injective}
use Rattle.rules.specs.declared.Refusal.{Refusal}
use Rattle.scan.specs.Fields.{none}
use Rattle.scan.specs.declared.holding.Numbers.{Numbers}
use Rattle.dimacs.specs.P2p.{p2p_rules}
use Rattle.dimacs.specs.Texts.{Outcome, read, refused}
use Rattle.dimacs.specs.Reading.{read_p2p}
use Rattle.dimacs.proofs.Accepted.{not_accepted, p2p_read, p2p_query_lem}
use Rattle.walks.specs.Rows.{Rows, network, Sound}
use Rattle.walks.specs.Least.{Reached}
use Rattle.passing.specs.Signs.{boxes_alone, box_signs}
use Rattle.passing.specs.Passing.{passing}
use Rattle.judging.specs.Order.{network_judged, searched_by, shaped_by, search_judged, day_judged}
use Rattle.search.specs.Says as search
use Rattle.search.specs.Says.{Answers}
use Rattle.search.proofs.SaysLaws.{answers_unique}
use Rattle.daylist.specs.Replies.{Replies, then, has_route, length_told, no_route, entry, with_route, with_none, total}
use Rattle.daylist.specs.Says.{DaySays, text_refused, rows-refused, answered}
use Rattle.daylist.specs.Claims as claims
use Rattle.daylist.specs.Claims.{Separate, no_more}
use Rattle.daylist.proofs.ReplyLaws.{replies_unique}
use Rattle.daylist.proofs.QueryLaws.{some_asked}
use Rattle.daylist.proofs.ReadLaws.{day_lent}

-- ---- queries name nodes

-- the ends of each query are nodes
abbrev pub Named : ℕ → List Numbers → Type 0
Named n queries = (i : ℕ) → i < length queries → (1 ≤ (get_or queries i none).first) × ((get_or queries i none).first ≤ n) × (1 ≤ (get_or queries i none).second) × ((get_or queries i none).second ≤ n)

pub read_named : (text : List ℕ) (n : ℕ) (before : List ℕ) (problem : Numbers) (queries : List Numbers) → read_p2p text n before ≡ read problem queries → Named n queries
unfolding p2p_rules
read_named text n before problem queries e i h =
    let t = p2p_read text n before problem queries e in
    let q = p2p_query_lem n t.2 text problem queries t.3 i h in
    (q.low.first, q.high.first, q.low.second, q.high.second)

pub named_rest : (n : ℕ) (q : Numbers) (queries : List Numbers) → Named n (q ∷ queries) → Named n queries
named_rest n q queries h i low = h (suc i) (omega arith)

-- ---- exactly one reply and one row

module _ {n m : ℕ} {R : Rows} (sound : Sound n m R) (x y boxes : List ℤ) where
  some_replies : (queries : List Numbers) → Named n queries → (replies : List Reply) × Replies n m R x y boxes queries replies
  some_replies [] h = ([], Replies.none)
  some_replies (q ∷ queries) h =
      let ends = h 0 (omega arith) in
      let a = (some_asked sound x y boxes q.first q.second ends.0 ends.1).1 in
      let r = some_replies queries (named_rest n q queries h) in
      (a.reply ∷ r.0, then a.answers r.1)

module _ (text : List ℕ) (n m : ℕ) (R : Rows) (x y boxes : List ℤ) (before : List ℕ) where
  pub day_unique : {reply reply' : Reply} {after after' : List ℕ} → DaySays text n m R x y boxes before reply after → DaySays text n m R x y boxes before reply' after'
      → (reply ≡ reply') × (after ≡ after')
  day_unique (text_refused {r = r} e) (text_refused {r = r'} e') = let same : r ≡ r' = cc in (rw same, refl)
  day_unique (text_refused e) (rows-refused e' j) = absurd (let z : ◌≡◌ {A = ℕ} 0 1 = cc in omega arith)
  day_unique (text_refused e) (answered e' j rs) = absurd (let z : ◌≡◌ {A = ℕ} 0 1 = cc in omega arith)
  day_unique (rows-refused e j) (text_refused e') = absurd (let z : ◌≡◌ {A = ℕ} 0 1 = cc in omega arith)
  day_unique (rows-refused {r = r} e j) (rows-refused {r = r'} e' j') = let same : r ≡ r' = cc in (rw same, refl)
  day_unique (rows-refused e j) (answered e' j' rs) = absurd (let z : ◌≡◌ {A = ℕ} 0 1 = cc in omega arith)
  day_unique (answered e j rs) (text_refused e') = absurd (let z : ◌≡◌ {A = ℕ} 0 1 = cc in omega arith)
  day_unique (answered e j rs) (rows-refused e' j') = absurd (let z : ◌≡◌ {A = ℕ} 0 1 = cc in omega arith)
  day_unique (answered {queries = queries} e j rs) (answered {queries = queries'} e' j' rs') =
      let same : queries ≡ queries' = cc in
      let all = replies_unique rs (rw (← same) at rs') in
      (rw all, rw all)

  pub exactly_one : claims.ExactlyOne text n m R x y boxes before
  exactly_one = by_text (read_p2p text n before) refl
    where
      only : (reply : Reply) (after : List ℕ) → DaySays text n m R x y boxes before reply after → claims.ExactlyOne text n m R x y boxes before
      only reply after d = (reply, after, d, λ other row o. day_unique o d)

      by_rows : (problem : Numbers) (queries : List Numbers) (j : Judged) → read_p2p text n before ≡ read problem queries → day_judged boxes_alone n m R (box_signs x y boxes) ≡ j
          → claims.ExactlyOne text n m R x y boxes before
      by_rows problem queries (Ok tt) e f =
          let r = some_replies (day_lent n m R x y boxes f).sound x y boxes queries (read_named text n before problem queries e) in
          only _ _ (answered e f r.1)
      by_rows problem queries (Err r) e f = only _ _ (rows-refused e f)

      by_text : (o : Outcome) → read_p2p text n before ≡ o → claims.ExactlyOne text n m R x y boxes before
      by_text (read problem queries) e = by_rows problem queries (day_judged boxes_alone n m R (box_signs x y boxes)) e refl
      by_text (refused r) e = only _ _ (text_refused e)

-- ---- separate searches

or_fine : (j : Judged) → or_else j fine ≡ j
or_fine (Ok tt) = refl
or_fine (Err r) = refl

module _ (n m : ℕ) (R : Rows) (x y boxes : List ℤ) where
  -- a search whose ends are nodes, and whose route row has n places, is judged as the list is
  judged_as_day : (s t places : ℕ) → n ≤ places → 1 ≤ s → s ≤ n → 1 ≤ t → t ≤ n → search_judged boxes_alone n m R (box_signs x y boxes) s t places ≡ day_judged boxes_alone n m R (box_signs x y boxes)
  unfolding searched_by search_judged day_judged
  judged_as_day s t places long a b c d =
      rw (le-leb n places long, le-leb 1 s a, le-leb s n b, le-leb 1 t c, le-leb t n d) (or_fine (shaped_by (network_judged n m R) n m boxes_alone (box_signs x y boxes) true))

  -- the answer is the same without a route row
  bare : {s t : ℕ} {route reply-row : List ℕ} {reply : Reply} → Answers (passing boxes_alone (box_signs x y boxes) t (network m R)) n s t route reply reply-row
      → (after : List ℕ) × Answers (passing boxes_alone (box_signs x y boxes) t (network m R)) n s t [] reply after
  bare (search.found f) = (_, search.found f)
  bare (search.none f) = (_, search.none f)

  pub separate_replies : day_judged boxes_alone n m R (box_signs x y boxes) ≡ fine → {queries : List Numbers} {replies : List Reply} → Named n queries → Separate n m R x y boxes queries replies
      → Replies n m R x y boxes queries replies
  separate_replies fine h no_more = Replies.none
  separate_replies fine {queries = q ∷ queries} h (claims.then {route = route} long (search.refused e) more) =
      let ends = h 0 (omega arith) in
      let same = judged_as_day q.first q.second (length route) long ends.0 ends.1 ends.2 ends.3 in
      absurd (let z : ◌≡◌ {A = ℕ} 0 1 = cc in omega arith)
  separate_replies fine {queries = q ∷ queries} h (claims.then long (search.answered e a) more) =
      then (bare a).1 (separate_replies fine (named_rest n q queries h) more)

  separate_refused : (r : Refusal) → day_judged boxes_alone n m R (box_signs x y boxes) ≡ Err r → {queries : List Numbers} {replies : List Reply} → Named n queries
      → Separate n m R x y boxes queries replies → replies ≡ replicate (length queries) (refusal r)
  separate_refused r judged h no_more = refl
  separate_refused r judged {queries = q ∷ queries} h (claims.then {route = route} long (search.refused {r = r'} e) more) =
      let ends = h 0 (omega arith) in
      let same = judged_as_day q.first q.second (length route) long ends.0 ends.1 ends.2 ends.3 in
      let one : r' ≡ r = cc in
      rw (one, separate_refused r judged (named_rest n q queries h) more)
  separate_refused r judged {queries = q ∷ queries} h (claims.then {route = route} long (search.answered e a) more) =
      let ends = h 0 (omega arith) in
      let same = judged_as_day q.first q.second (length route) long ends.0 ends.1 ends.2 ends.3 in
      absurd (let z : ◌≡◌ {A = ℕ} 0 1 = cc in omega arith)

module _ (text : List ℕ) (n m : ℕ) (R : Rows) (x y boxes : List ℤ) (before : List ℕ) where
  -- what an accepted list says
  record Ran (problem : Numbers) (queries : List Numbers) (results after : List ℕ) : Type 0 where
    pub fine : day_judged boxes_alone n m R (box_signs x y boxes) ≡ fine
    pub replies : List Reply
    pub each : Replies n m R x y boxes queries replies
    pub told : results ≡ with_route replies ∷ with_none replies ∷ total replies ∷ []
    pub filled : after ≡ map entry replies ++ drop (length replies) before

  ran : (problem : Numbers) (queries : List Numbers) (results : List ℕ) {reply : Reply} {after : List ℕ} → read_p2p text n before ≡ read problem queries
      → DaySays text n m R x y boxes before reply after → reply ≡ accepted results → Ran problem queries results after
  ran problem queries results e (text_refused {r = r} d) f = absurd (not_accepted r results f)
  ran problem queries results e (rows-refused {r = r} d j) f = absurd (not_accepted r results f)
  ran problem queries results e (answered {queries = queries'} {replies = replies} d j rs) f =
      let same : queries' ≡ queries = cc in
      record { fine = j; replies = replies; each = rw same at rs; told = sym (ap (λ (r : Reply). r.values) f); filled = refl }

  pub lengths_and_totals : claims.LengthsAndTotals text n m R x y boxes before
  lengths_and_totals problem queries replies results after e separate says =
      let d = ran problem queries results e says refl in
      let same = replies_unique d.each (separate_replies n m R x y boxes d.fine (read_named text n before problem queries e) separate) in
      rw (← same) (d.told, d.filled)

  -- what a refused list says
  kept : (r : Refusal) {reply : Reply} {after : List ℕ} → DaySays text n m R x y boxes before reply after → reply ≡ refusal r → after ≡ before
  kept r (text_refused d) f = refl
  kept r (rows-refused d j) f = refl
  kept r (answered d j rs) f = absurd (not_accepted r _ (sym f))

  pub refused-keeps : claims.RefusedKeeps text n m R x y boxes before
  refused-keeps r after says = kept r says refl

  by_rows : (problem : Numbers) (queries : List Numbers) (r : Refusal) {reply : Reply} {after : List ℕ} → read_p2p text n before ≡ read problem queries
      → DaySays text n m R x y boxes before reply after → reply ≡ refusal r → day_judged boxes_alone n m R (box_signs x y boxes) ≡ Err r
  by_rows problem queries r e (text_refused d) f = absurd (let z : ◌≡◌ {A = ℕ} 0 1 = cc in omega arith)
  by_rows problem queries r e (rows-refused {r = r'} d j) f = rw (← refusal_injective r' r f) j
  by_rows problem queries r e (answered d j rs) f = absurd (not_accepted r _ (sym f))

  pub refused_alike : claims.RefusedAlike text n m R x y boxes before
  refused_alike problem queries replies r after e separate says =
      separate_refused n m R x y boxes r (by_rows problem queries r e says refl) (read_named text n before problem queries e) separate

-- ---- the mark

module _ {n m : ℕ} {R : Rows} (sound : Sound n m R) (x y boxes : List ℤ) where
  -- one query
  marked : (s t : ℕ) → 1 ≤ s → s ≤ n → {reply : Reply} {route : List ℕ} → Answers (passing boxes_alone (box_signs x y boxes) t (network m R)) n s t [] reply route
      → (entry reply ≡ no_route) ↔ (¬ Reached (passing boxes_alone (box_signs x y boxes) t (network m R)) s t)
  marked s t low high (search.found {d = d} {k = k} {c = c} f) =
      let a = (some_asked sound x y boxes s t low high).1 in
      let same : a.reply ≡ accepted (d ∷ k ∷ c ∷ []) = (answers_unique a.answers (search.found f)).0 in
      let near : d ≤ 511_000_000 = limit a.reply same a.near in
      (λ e. absurd (omega arith), λ h. absurd (h (record { length = d; count = k; walk = f.best.walk })))
    where
      limit : (reply : Reply) → reply ≡ accepted (d ∷ k ∷ c ∷ []) → (has_route reply ≡ true → length_told reply ≤ 511_000_000) → d ≤ 511_000_000
      limit reply e near = rw e at near refl
  marked s t low high (search.none f) = (λ e. f.none, λ h. refl)

  marked-at : (queries : List Numbers) {replies : List Reply} (rest : List ℕ) → Named n queries → Replies n m R x y boxes queries replies → (i : ℕ) → i < length queries
      → let q = get_or queries i none in
      (get_or (map entry replies ++ rest) i 0 ≡ no_route) ↔ (¬ Reached (passing boxes_alone (box_signs x y boxes) q.second (network m R)) q.first q.second)
  marked-at [] rest h Replies.none i low = absurd (omega arith)
  marked-at (q ∷ queries) rest h (then a more) zero low = let ends = h 0 (omega arith) in marked q.first q.second ends.0 ends.1 a
  marked-at (q ∷ queries) rest h (then a more) (suc i) low = marked-at queries rest (named_rest n q queries h) more i (omega arith)

pub mark_exactly : (text : List ℕ) (n m : ℕ) (R : Rows) (x y boxes : List ℤ) (before : List ℕ) → claims.MarkExactly text n m R x y boxes before
mark_exactly text n m R x y boxes before problem queries results after e says i low =
    let d = ran text n m R x y boxes before problem queries results e says refl in
    rw d.filled (marked-at (day_lent n m R x y boxes d.fine).sound x y boxes queries (drop (length d.replies) before) (read_named text n before problem queries e) d.each i low)
