-- What is computed is what the functions say.
use Prim.Native.Nat.{ℕ, zero, suc, ◌+◌, ◌*◌, ◌≤◌}
use mathlib.Core.Path.{◌≡◌, refl, subst}
use mathlib.Core.Bool.{Bool, true, false, false≢true, true≢false}
use mathlib.Core.List.{List, [], ◌∷◌, ◌++◌, map}
use native.Mathlib.Omega.{arith}
use native.Mathlib.Nat.{mul-suc}
use native.Mathlib.Numerals.{add-one}
use lib.IntN.{ℤ}
use Rattle.std.specs.Prelude.{Option, Some, None, Ok, Err}
use lib.ListN.{length, drop, replicate, length-replicate}
use Rattle.rules.specs.Paper.{accepted}
use Rattle.rules.specs.declared.Asked.{Asked}
use Rattle.rules.specs.Judging.{Judged, fine}
use Rattle.scan.specs.declared.holding.Numbers.{Numbers}
use Rattle.dimacs.specs.Texts as text
use Rattle.dimacs.specs.Reading.{read_p2p}
use Rattle.walks.specs.Walk.{Net, kept}
use Rattle.walks.specs.Rows.{Rows, rows, laid}
use Rattle.geometry.specs.Box.{mark}
use Rattle.geometry.specs.Row.{with_box}
use Rattle.masks.specs.Says.{LampsSays}
use Rattle.passing.specs.Signs.{Signs, boxes_alone, box_signs}
use Rattle.passing.proofs.PassingLaws.{tested_arcs}
use Rattle.std.proofs.lemmas.Bool.{cond_both}
use Rattle.settling.specs.Run.{search_of}
use Rattle.judging.specs.Order.{search_judged, build_judged, check_judged, update_judged, day_judged}
use Rattle.judging.proofs.FineLaws.{SearchLent, search_fine, build_fine, check_fine, update_fine}
use Rattle.search.specs.Says.{Answers, Says, SearchBy, refused, answered}
use Rattle.search.proofs.Networks.{answers_alike}
use Rattle.search.proofs.Answering.{found-answers, none_answers}
use Rattle.drawing.specs.declared.compare.Miss.{Miss}
use Rattle.drawing.specs.Drawn.{Kind, Row, box_row, Drawn, DrawnIf}
use Rattle.drawing.specs.Gathered.{add_place, add_module, Emptied}
use Rattle.drawing.specs.Missed.{misses_node, IsFirst}
use Rattle.drawing.proofs.DrawnLaws.{Puts, puts_box, puts_single, drawn_none, drawn_next, if_long}
use Rattle.boxwork.specs.Says.{Builds, Checks, Updates, BuildBy, CheckBy, UpdateSays, boxes_of, masks_of, changed}
use Rattle.boxwork.proofs.Meaning.{boxes_built_lem, masks_built_lem, missed_first, missed_none, updated_says}
use Rattle.boxwork.proofs.Parts.{by_both_lem}
use Rattle.daylist.specs.Replies.{entry, with_route, with_none, total}
use Rattle.daylist.specs.Says as day
use Rattle.daylist.specs.Says.{DaySays}
use Rattle.daylist.specs.Claims as separately
use Rattle.daylist.specs.Claims.{Separate}
use Rattle.daylist.proofs.Claims.{read_named, separate_replies}
use Rattle.worked.proofs.LowestLaws.{lowest_arc_lem}
use Rattle.worked.proofs.Computed.{or_told, answer_of, kept_toward, search_told, replies_told, day_told, drawn_to, drawn_if, all_added, boxes_built, masks_built, build_told, update_told, lowest_arc, miss_reply, or_miss, check_told, lamps_told}
use Rattle.worked.specs.Table.{Told}

-- ---- Searches

says_told : {N : Net} {n s t : ℕ} {row : List ℕ} (j : Judged) (told : Told) → (j ≡ fine → Answers N n s t row told.reply told.numbers)
    → Says j N n s t row (or_told j row [] [] told).reply (or_told j row [] [] told).numbers
unfolding or_told
says_told (Err r) told h = refused refl
says_told (Ok _) told h = answered refl (h refl)

answer_told : {n m : ℕ} {R : Rows} (keep : ℕ → Bool) (s t : ℕ) (row : List ℕ) → SearchLent n m R s t (length row)
    → let told = answer_of R keep m t row (search_of R keep n m t s) in Answers (kept keep (laid m R)) n s t row told.reply told.numbers
unfolding answer_of
answer_told {n} {m} {R} keep s t row l =
    cond_both (search_of R keep n m t s).found _ _ (λ (z : Told). Answers (kept keep (laid m R)) n s t row z.reply z.numbers)
    (λ e. found-answers l.sound keep s t l.source_low l.source_high row l.room refl e refl)
    (λ e. none_answers l.sound keep s t l.source_low l.source_high row l.room refl e)

pub search_told_lem : (asked : Asked) (n m : ℕ) (R : Rows) (G : Signs) (s t : ℕ) (row : List ℕ)
    → let told = search_told asked n m R G s t row in SearchBy asked n m R G s t row told.reply told.numbers
unfolding search_told
search_told_lem asked n m R G s t row =
    says_told (search_judged asked n m R G s t (length row)) _ (λ e.
    let f = search_fine asked n m R G s t (length row) e in
    let l = f.0 in
    answers_alike (tested_arcs asked G t m R (λ h. ((f.1.lent.modules h).numbers t l.target_low l.target_high).0))
    (answer_told (kept_toward asked n m R G t) s t row l))

-- ---- A day's list

module _ (n m : ℕ) (R : Rows) (x y boxes : List ℤ) where
  separate_told : (queries : List Numbers) → Separate n m R x y boxes queries (replies_told n m R x y boxes queries)
  unfolding replies_told
  separate_told [] = separately.no_more
  separate_told (q ∷ queries) =
      separately.then {route = replicate n 0} (omega (arith, length-replicate {A = ℕ} n 0)) (search_told_lem boxes_alone n m R (box_signs x y boxes) q.first q.second (replicate n 0)) (separate_told queries)

  module _ (lines before : List ℕ) where
    rows_told : (problem : Numbers) (queries : List Numbers) (j : Judged) → read_p2p lines n before ≡ text.read problem queries → day_judged boxes_alone n m R (box_signs x y boxes) ≡ j
        → let replies = replies_told n m R x y boxes queries in
        let told = or_told j before [] []
        (record { reply = accepted (with_route replies ∷ with_none replies ∷ total replies ∷ []); numbers = map entry replies ++ drop (length replies) before; closures = []; boxes = [] }) in
        DaySays lines n m R x y boxes before told.reply told.numbers
    unfolding or_told
    rows_told problem queries (Err r) e j = day.rows-refused e j
    rows_told problem queries (Ok _) e j =
        day.answered e j (separate_replies n m R x y boxes j (read_named lines n before problem queries e) (separate_told queries))

    text_told : (o : text.Outcome) → read_p2p lines n before ≡ o
        → let told = day_told n m R x y boxes before o in DaySays lines n m R x y boxes before told.reply told.numbers
    unfolding day_told
    text_told (text.refused r) e = day.text_refused e
    text_told (text.read problem queries) e = rows_told problem queries (day_judged boxes_alone n m R (box_signs x y boxes)) e refl

    pub day_told_lem : let told = day_told n m R x y boxes before (read_p2p lines n before) in DaySays lines n m R x y boxes before told.reply told.numbers
    day_told_lem = text_told (read_p2p lines n before) refl

-- ---- Build and update

-- the places of one arc fewer
fewer : (p k l : ℕ) → p * suc k ≤ l → p * k ≤ l
fewer p k l h = omega (arith, mul-suc p k)

module _ {K : Kind} {put : Row K → ℕ → K.Entry → Row K} (puts : Puts K put) {Is : ℕ → K.Entry → K.Entry → Type 0} (draw : ℕ → K.Entry → K.Entry) where
  drawn_to_lem : (m : ℕ) (row : Row K) → K.places * m ≤ length row → ((e : ℕ) → 1 ≤ e → e ≤ m → Is e (K.entry row e) (draw e (K.entry row e)))
      → Drawn K m Is row (drawn_to K put draw m row)
  unfolding drawn_to
  drawn_to_lem zero row long h = drawn_none
  drawn_to_lem (suc k) row long h =
      subst (λ (j : ℕ). Drawn K j Is row (drawn_to K put draw (suc k) row)) (add-one k)
      (drawn_next puts (drawn_to_lem k row (fewer K.places k (length row) long) (λ e low high. h e low (omega arith))) _
      (rw (add-one k) long) (h (k + 1) (omega arith) (omega arith)))

  drawn_if_lem : (asked : Bool) (m : ℕ) (row : Row K) → (asked ≡ true → K.places * m ≤ length row) → ((e : ℕ) → 1 ≤ e → e ≤ m → Is e (K.entry row e) (draw e (K.entry row e)))
      → DrawnIf asked K m Is row (drawn_if K put draw asked m row)
  unfolding drawn_if
  drawn_if_lem true m row long h = record { drawn = λ e. drawn_to_lem m row (long refl) h; kept = λ e. absurd (true≢false e) }
  drawn_if_lem false m row long h = record { drawn = λ e. absurd (false≢true e); kept = λ e. refl }

module _ (asked : Asked) (n m : ℕ) (R : Rows) (G : Signs) where
  build_by : (j : Judged) → build_judged asked n m R G ≡ j
      → let told = or_told j G.masks [] G.boxes (record { reply = accepted []; numbers = masks_built n m R asked G; closures = []; boxes = boxes_built n m R asked G }) in
      BuildBy asked n m R G told.reply told.boxes told.numbers
  unfolding or_told
  build_by (Err r) e = Builds.refused e
  build_by (Ok _) e =
      let l = build_fine asked n m R G e in
      let b = drawn_if_lem puts_box {Is = Emptied mark} (λ e b. mark) asked.boxes m G.boxes (λ h. (l.places h).boxes_long) (λ e low high. refl) in
      let k = drawn_if_lem (puts_single 0) {Is = Emptied 0} (λ e b. 0) asked.masks m G.masks (λ h. omega (arith, (l.modules h).masks_long)) (λ e low high. refl) in
      Builds.built e
      (boxes_built_lem l.sound (λ h. (l.places h).places) b
      (drawn_if_lem puts_box (all_added n m R (add_place G.x G.y)) asked.boxes m _ (λ h. omega (arith, if_long b, (l.places h).boxes_long)) (λ e low high. refl)))
      (masks_built_lem l.sound (λ h. (l.modules h).numbers) k
      (drawn_if_lem (puts_single 0) (all_added n m R (add_module G.modules)) asked.masks m _ (λ h. omega (arith, if_long k, (l.modules h).masks_long)) (λ e low high. refl)))

  pub build_told_lem : let told = build_told n m R asked G in BuildBy asked n m R G told.reply told.boxes told.numbers
  unfolding build_told
  build_told_lem = build_by (build_judged asked n m R G) refl

module _ (n m : ℕ) (R : Rows) (x y boxes : List ℤ) (arc weight closure : ℕ) where
  update_by : (j : Judged) → update_judged boxes_alone n m R (box_signs x y boxes) arc weight closure ≡ j
      → let S = changed R arc weight closure in
      let told = or_told j R.weights R.closures boxes
      (record { reply = accepted []; numbers = S.weights; closures = S.closures; boxes = drawn_to box_row with_box (all_added n m S (add_place x y)) m boxes }) in
      UpdateSays n m R x y boxes arc weight closure told.reply (rows R.tails R.heads told.numbers told.closures) told.boxes
  unfolding or_told
  update_by (Err r) e = Updates.refused e
  update_by (Ok _) e =
      let u = update_fine boxes_alone n m R (box_signs x y boxes) arc weight closure e in
      let l = (check_fine boxes_alone n m R (box_signs x y boxes) u.0).lent in
      updated_says n R arc weight closure e refl
      (drawn_to_lem puts_box (all_added n m (changed R arc weight closure) (add_place x y)) m boxes (l.places refl).boxes_long (λ e low high. refl))

  pub update_told_lem : let told = update_told n m R x y boxes arc weight closure in
      UpdateSays n m R x y boxes arc weight closure told.reply (rows R.tails R.heads told.numbers told.closures) told.boxes
  unfolding update_told
  update_told_lem = update_by (update_judged boxes_alone n m R (box_signs x y boxes) arc weight closure) refl

-- ---- Check

module _ (asked : Asked) (n m : ℕ) (R : Rows) (G : Signs) where
  check_missed : check_judged asked n m R G ≡ fine → (a b : Option Miss) → IsFirst (misses_node R n m (boxes_of asked) G) n m a → IsFirst (misses_node R n m (masks_of asked) G) n m b
      → CheckBy asked n m R G (miss_reply (or_miss a b))
  check_missed f (Some miss) b p q =
      let l = (check_fine asked n m R G f).lent in
      Checks.box_missed f (missed_first l.sound (boxes_of asked) G (λ h. absurd (false≢true h)) p)
  check_missed f None (Some miss) p q =
      let l = (check_fine asked n m R G f).lent in
      Checks.mask_missed f (missed_none l.sound (boxes_of asked) G (λ h. absurd (false≢true h)) p) (missed_first l.sound (masks_of asked) G (λ h. (l.modules h).numbers) q)
  check_missed f None None p q =
      let l = (check_fine asked n m R G f).lent in
      Checks.consistent f (by_both_lem (missed_none l.sound (boxes_of asked) G (λ h. absurd (false≢true h)) p) (missed_none l.sound (masks_of asked) G (λ h. (l.modules h).numbers) q))

  check_by : (j : Judged) → check_judged asked n m R G ≡ j
      → let miss = or_miss (lowest_arc (misses_node R n m (boxes_of asked) G) n m) (lowest_arc (misses_node R n m (masks_of asked) G) n m) in
      CheckBy asked n m R G (or_told j [] [] [] (record { reply = miss_reply miss; numbers = []; closures = []; boxes = [] })).reply
  unfolding or_told
  check_by (Err r) e = Checks.refused e
  check_by (Ok _) e =
      let boxes = misses_node R n m (boxes_of asked) G in
      let masks = misses_node R n m (masks_of asked) G in
      check_missed e (lowest_arc boxes n m) (lowest_arc masks n m) (lowest_arc_lem boxes n m) (lowest_arc_lem masks n m)

  pub check_told_lem : CheckBy asked n m R G (check_told asked n m R G).reply
  unfolding check_told
  check_told_lem = check_by (check_judged asked n m R G) refl

-- ---- The panel

pub lamps_told_lem : (mask : ℕ) (row : List ℕ) → 32 ≤ length row → let told = lamps_told mask row in LampsSays mask row told.reply told.numbers
lamps_told_lem mask row long = LampsSays.lit long
