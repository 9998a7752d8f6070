-- The reply, computed: by the definitions that the code's steps meet.
use Prim.Native.Nat.{ℕ, ◌+◌, ◌-◌}
use native.Mathlib.Omega.{arith}
use mathlib.Core.Path.{◌≡◌, refl, sym, ◌∙◌}
use mathlib.Core.Bool.{Bool, cond, false≢true}
use mathlib.Core.List.{List}
use lib.Dec.{ltb}
use lib.ListN.{length, take, drop, replicate, length-replicate}
use borrow.Author.Tests.{eqb-true, eq-eqb, ltb-true, ltb-false}
use Rattle.rules.specs.Paper.{Reply, refusal}
use Rattle.std.specs.Prelude.{Ok, Err}
use Rattle.rules.specs.Judging.{Judged, fine}
use Rattle.rules.specs.declared.Refusal.TheVariants.{NoWalk}
use Rattle.walks.specs.Rows.{Rows, at, is_open, network, turned}
use Rattle.walks.proofs.RowsLaws.{turned_sound}
use Rattle.settling.specs.declared.Outcome.{Outcome}
use Rattle.settling.specs.Labels.{length_of, arcs_of}
use Rattle.settling.specs.Run.{search_of}
use Rattle.settling.specs.Trace.{trace_of}
use Rattle.std.proofs.lemmas.Bool.{cond_both}
use Rattle.settling.proofs.SearchIsRight.{search_found, search_missed}
use Rattle.judging.specs.Order.{why_judged}
use Rattle.judging.proofs.FineLaws.{why_fine}
use Rattle.reasons.specs.declared.Reason.{Reason}
use Rattle.reasons.specs.declared.Reason.TheVariants.{Closed as closed, CutOff as cut_off, Longer as longer, Tied as tied, OnRoute as on_route}
use Rattle.reasons.specs.Paper.{told}
use Rattle.reasons.specs.Says.{Answers, none, WhySays, refused, answered}
use Rattle.reasons.specs.Steps.{is_among, Asked, Known}
use Rattle.reasons.proofs.Finding.{first_places_lem, found_known}
use Rattle.reasons.proofs.Ways.{way_cut, way_leads}
use Rattle.reasons.proofs.Telling.{told-closed, start-cut, end_cut, told_longer, told_tied, told_on_route}

pub why_asked : (n m : ℕ) (R : Rows) (s t arc : ℕ) → why_judged n m R s t arc ≡ fine → Asked n m R s t arc
why_asked n m R s t arc e =
    let f = why_fine n m R s t arc e in
    let l = f.0 in
    record {
      sound = l.sound;
      source_low = l.source_low;
      source_high = l.source_high;
      target_low = l.target_low;
      target_high = l.target_high;
      arc_low = f.1;
      arc_high = f.2;
    }

-- whether the arc is open, the searches to its start and back to its end, the labels' lengths there with its weight and d(s,t), and
-- whether it is on the route
unfoldable pub reason_by : Bool → Outcome → Outcome → ℕ → ℕ → Bool → Reason
reason_by clear a b through d on =
    cond clear (cond a.found (cond b.found (cond (ltb d through) (longer (through - d)) (cond on on_route tied)) cut_off) cut_off) closed

module _ (n m : ℕ) (R : Rows) (s t e : ℕ) where
  abbrev to_end : Outcome
  to_end = search_of R (is_open R.closures) n m t s

  abbrev to_start : Outcome
  to_start = search_of R (is_open R.closures) n m (at R.tails e) s

  abbrev back_to : Outcome
  back_to = search_of (turned R) (is_open R.closures) n m (at R.heads e) t

  abbrev route : List ℕ
  route = take (arcs_of to_end.labels t) (trace_of R (is_open R.closures) m to_end.labels (arcs_of to_end.labels t) t (replicate n 0))

  abbrev through : ℕ
  through = length_of to_start.labels (at R.tails e) + length_of back_to.labels (at R.heads e) + at R.weights e

  unfoldable pub reason_of : Reason
  reason_of = reason_by (is_open R.closures e) to_start back_to through (length_of to_end.labels t) (is_among e route)

  abbrev Tells : Reason → Type 0
  Tells r = Answers (network m R) n s t e (told r)

  unfoldable pub judged_reply : Judged → Reply
  judged_reply (Err r) = refusal r
  judged_reply (Ok _) = cond to_end.found (told reason_of) (refusal (NoWalk to_end.count))

  unfoldable pub reply_of : Reply
  reply_of = judged_reply (why_judged n m R s t e)

  module _ (asked : Asked n m R s t e) where
    -- by the search that finds the route
    module _ (known : Known (network m R) s t (length_of to_end.labels t) route) where
      reason_told : Tells reason_of
      unfolding reason_by reason_of
      reason_told =
          cond_both (is_open R.closures e) _ _ Tells
          (λ clear.
          let o = eqb-true (at R.closures e) 0 clear in
          cond_both to_start.found _ _ Tells
          (λ there.
          let p = way_leads asked.sound asked.source_low asked.source_high {o = to_start} refl there in
          cond_both back_to.found _ _ Tells
          (λ back.
          let q = way_leads (turned_sound asked.sound) asked.target_low asked.target_high {o = back_to} refl back in
          cond_both (ltb (length_of to_end.labels t) through) _ _ Tells
          (λ more. told_longer asked known o p q (ltb-true _ through more))
          (λ less. cond_both (is_among e route) _ _ Tells
          (λ on. told_on_route asked known o p q on)
          (λ off. told_tied asked known o p q (omega (arith, ltb-false _ through less)) off)))
          (λ away. end_cut asked known o (way_cut (turned_sound asked.sound) asked.target_low asked.target_high {o = back_to} refl away)))
          (λ away. start-cut asked known o (way_cut asked.sound asked.source_low asked.source_high {o = to_start} refl away)))
          (λ shut. told-closed asked known (λ z. false≢true (sym shut ∙ eq-eqb (at R.closures e) 0 z)))

    answer_told : Answers (network m R) n s t e (judged_reply fine)
    unfolding network judged_reply
    answer_told =
        cond_both to_end.found _ _ (Answers (network m R) n s t e)
        (λ f.
        let a = search_found asked.sound asked.source_low asked.source_high t f (replicate n 0) (omega (arith, length-replicate {A = ℕ} n 0)) in
        let row = first_places_lem a.arcs (drop (length a.arcs) (replicate n 0)) (arcs_of to_end.labels t) a.count in
        reason_told (found_known a.found (rw a.written row)))
        (λ f. none (search_missed asked.sound asked.source_low asked.source_high t f))

  says_judged : (j : Judged) → why_judged n m R s t e ≡ j → WhySays n m R s t e (judged_reply j)
  unfolding judged_reply
  says_judged (Err r) h = refused h
  says_judged (Ok tt) h = answered h (answer_told (why_asked n m R s t e h))

  pub reply_says : WhySays n m R s t e reply_of
  unfolding reply_of
  reply_says = says_judged (why_judged n m R s t e) refl
