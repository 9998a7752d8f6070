-- What a run ends with: its target is the next node, or no node is left to settle.
use Prim.Native.Nat.{ℕ, zero, suc, ◌+◌, ◌-◌, ◌≤◌}
use native.Mathlib.Omega.{arith}
use mathlib.Core.Bool.{Bool, true, false, ◌&&◌}
use mathlib.Core.Path.{◌≡◌, refl, sym, ap, ◌∙◌}
use mathlib.Core.Logic.{◌≢◌}
use mathlib.Core.List.{List}
use lib.ListN.{get_or}
use lib.Seq.{get_or-set_other}
use lib.Dec.{eqb}
use borrow.Author.Tests.{eqb-true, eqb-false}
use Rattle.walks.specs.Rows.{Rows, Sound}
use Rattle.walks.specs.Settling.{Next}
use Rattle.walks.proofs.Marking.{started}
use Rattle.walks.proofs.Limits.{count_room}
use Rattle.settling.specs.declared.Labels.{Labels}
use Rattle.settling.specs.declared.Outcome.{Outcome}
use Rattle.std.specs.Prelude.{Option, Some, None}
use Rattle.std.proofs.lemmas.Bool.{cond_both}
use Rattle.settling.specs.Labels.{length_of, arcs_of, before, start_of, labelled, offered, marked}
use Rattle.settling.specs.Settle.{arc_step, relaxed, settle_of}
use Rattle.settling.specs.Nearest.{nearest_of}
use Rattle.settling.proofs.NearestIsNext.{nearest_next, nearest_left}
use Rattle.settling.specs.Run.{after_pick, run_of, search_of}
use Rattle.settling.specs.Seen.{seen}
use Rattle.settling.specs.Stage.{Stage, Ready}
use Rattle.settling.proofs.LabelsSeen.{full_start, seen_start}
use Rattle.settling.proofs.StageKept.{next_near, stage_settle}

-- ---- Settling u marks no other node

offered_marks : (L : Labels) (v l k : ℕ) → (offered L v l k).settled ≡ L.settled
unfolding offered labelled
offered_marks L v l k = cond_both (before l k (length_of L v) (arcs_of L v)) _ _ (λ (x : Labels). x.settled ≡ L.settled) (λ t. refl) (λ t. refl)

module _ (R : Rows) (keep : ℕ → Bool) where
  relaxed_marks : (u l k : ℕ) (L : Labels) (j : ℕ) → (relaxed R keep u l k L j).settled ≡ L.settled
  unfolding relaxed arc_step
  relaxed_marks u l k L zero = refl
  relaxed_marks u l k L (suc j) =
      cond_both (eqb (get_or R.tails j 0) u && keep (j + 1)) _ _ (λ (x : Labels). x.settled ≡ L.settled)
      (λ t. offered_marks _ _ _ _ ∙ relaxed_marks u l k L j)
      (λ t. relaxed_marks u l k L j)

  still_unsettled : (n m : ℕ) (L : Labels) (u t : ℕ) → 1 ≤ u → u ≢ t → ¬ (seen n L).Settled t → ¬ (seen n (settle_of R keep m L u)).Settled t
  unfolding seen settle_of marked
  still_unsettled n m L u t low other h d =
      let same = ap (λ (x : List Bool). get_or x (t - 1) false) (relaxed_marks u (length_of L u) (arcs_of L u) (marked L u) m) in
      let old = get_or-set_other L.settled (u - 1) (t - 1) true false (λ q. other (omega (arith, d.0))) in
      h (d.0, d.1, sym old ∙ (sym same ∙ d.2))

module _ {R : Rows} {n m : ℕ} (sound : Sound n m R) {keep : ℕ → Bool} {s : ℕ} where
  pub stage_start : 1 ≤ s → s ≤ n → Stage R keep n m s 0 (start_of s)
  stage_start low high = record { progress = started n (seen_start n sound.nodes_high s low high); full = full_start n sound.nodes_high s low high }

  module _ {c u : ℕ} {L : Labels} (stage : Stage R keep n m s c L) (picked : nearest_of L n ≡ Some u) where
    pub ready : Ready n L u
    unfolding seen
    ready =
        let next = nearest_next n L picked in
        let near = next_near sound stage next in
        let known = next.labelled in
        record { low = known.0; high = known.1; length = near.1; arcs = near.0 }

    pub stage_on : Stage R keep n m s (c + 1) (settle_of R keep m L u)
    stage_on = stage_settle sound stage (nearest_next n L picked)

-- `Ends R keep n m s t o`: a run from s to t ends so
pub data Ends (R : Rows) (keep : ℕ → Bool) (n m s t : ℕ) : Outcome → Type 0 where
  finds : {c : ℕ} {L : Labels} → Stage R keep n m s c L → Next (seen n L) t → Ends R keep n m s t (record { labels = L; count = c + 1; found = true })
  misses : {c : ℕ} {L : Labels} → Stage R keep n m s c L → ¬ (seen n L).Settled t → ((v : ℕ) → (seen n L).Labelled v → ¬ ¬ (seen n L).Settled v)
      → Ends R keep n m s t (record { labels = L; count = c; found = false })

module _ {R : Rows} {n m : ℕ} (sound : Sound n m R) {keep : ℕ → Bool} {s t : ℕ} where
  after : (c : ℕ) (L : Labels) (go : Labels → Outcome) → Stage R keep n m s c L → ¬ (seen n L).Settled t
      → ((L' : Labels) → Stage R keep n m s (c + 1) L' → ¬ (seen n L').Settled t → Ends R keep n m s t (go L'))
      → (p : Option ℕ) → nearest_of L n ≡ p → Ends R keep n m s t (after_pick R keep n m t c L go p)
  unfolding after_pick
  after c L go stage out next None e = misses stage out (nearest_left n L e)
  after c L go stage out next (Some u) e =
      cond_both (eqb u t) _ _ (Ends R keep n m s t)
      (λ q. finds stage (rw (eqb-true u t q) at (nearest_next n L e)))
      (λ q. next (settle_of R keep m L u) (stage_on sound stage e) (still_unsettled R keep n m L u t (ready sound stage e).low (eqb-false u t q) out))

  run_ends : (fuel c : ℕ) (L : Labels) → fuel + c ≡ n → Stage R keep n m s c L → ¬ (seen n L).Settled t → Ends R keep n m s t (run_of R keep n m t fuel c L)
  unfolding run_of seen
  run_ends zero c L e stage out = misses stage out (λ v known free. omega (arith, count_room v known.0 known.1 free stage.progress.count))
  run_ends (suc fuel) c L e stage out =
      after c L (run_of R keep n m t fuel (c + 1)) stage out (λ L' stage' out'. run_ends fuel (c + 1) L' (omega arith) stage' out') (nearest_of L n) refl

  pub search_ends : 1 ≤ s → s ≤ n → Ends R keep n m s t (search_of R keep n m t s)
  search_ends low high = run_ends n 0 (start_of s) (omega arith) (stage_start sound low high) ((seen_start n sound.nodes_high s low high).none t)
