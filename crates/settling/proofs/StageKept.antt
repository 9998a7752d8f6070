-- Settling the next node keeps what a search knows.
use Prim.Native.Nat.{ℕ, zero, suc, ◌+◌, ◌-◌, ◌<◌, ◌≤◌}
use native.Mathlib.Omega.{arith}
use native.Mathlib.Numerals.{add-one}
use mathlib.Core.Bool.{Bool, true, ◌&&◌, false≢true}
use mathlib.Core.Path.{◌≡◌, refl, sym, subst, ap, ◌∙◌}
use mathlib.Core.Logic.{◌≢◌}
use lib.Dec.{eqb}
use borrow.Author.Tests.{eqb-true, eq-eqb}
use Rattle.walks.specs.Walk.{kept}
use Rattle.walks.specs.Rows.{Rows, at, laid, Sound}
use Rattle.walks.proofs.OrderLaws.{NotAfter_as}
use Rattle.walks.proofs.Limits.{laid-within, only-within, walk_light, few_arcs}
use Rattle.walks.specs.Settling.{Next}
use Rattle.walks.proofs.Marking.{Relaxing, settle}
use Rattle.walks.proofs.Relaxing.{relax_none, relax_better, relaxed_all}
use Rattle.settling.specs.declared.Labels.{Labels}
use Rattle.std.proofs.lemmas.Bool.{cond_both}
use Rattle.rules.proofs.AndLaws.{and_true, and_yes}
use Rattle.settling.specs.Labels.{length_of, arcs_of, before, labelled, offered, marked}
use Rattle.settling.specs.Settle.{arc_step, relaxed, settle_of}
use Rattle.settling.specs.Seen.{seen}
use Rattle.settling.specs.Stage.{Full, Stage}
use Rattle.settling.proofs.Offers.{before_true, before_false}
use Rattle.settling.proofs.LabelsSeen.{full_labelled, full_marked, seen-marked, seen-labelled}

-- u is being settled, its label is (l, k), and of the arcs out of it those of 1..j are relaxed
record Half (R : Rows) (keep : ℕ → Bool) (n m s c u l k j : ℕ) (L : Labels) : Type 0 where
  relaxing : Relaxing (kept keep (laid m R)) n s (seen n L) u (λ e. e ≤ j) c
  full : Full n L
  length : length_of L u ≡ l
  arcs : arcs_of L u ≡ k

module _ {R : Rows} {n m : ℕ} (sound : Sound n m R) {keep : ℕ → Bool} where
  module _ {s c u l k : ℕ} (near : l ≤ 511_000_000) (i : ℕ) (low : 1 ≤ i) (high : i ≤ m) {L : Labels} (h : Half R keep n m s c u l k (i - 1) L) where
    -- the arc i out of u, which may be used, offers its head a label
    offer : at R.tails i ≡ u → keep i ≡ true → Half R keep n m s c u l k i (offered L (at R.heads i) (l + at R.weights i) (k + 1))
    unfolding offered laid seen
    offer from usable =
        let a = sound.arcs i low high in
        let v = at R.heads i in
        let w = at R.weights i in
        cond_both (before (l + w) (k + 1) (length_of L v) (arcs_of L v)) (labelled L v (l + w) (k + 1)) L (Half R keep n m s c u l k i)
        (λ t.
        let less = before_true (l + w) (k + 1) (length_of L v) (arcs_of L v) t in
        let new = seen-labelled n sound.nodes_high h.full v (l + w) (k + 1) a.head_low a.head_high (omega arith) in
        let done = h.relaxing.settled in
        let known = h.relaxing.progress.settled_labelled u done in
        let apart : u ≢ v = λ e. omega (arith, ap (length_of L) e, ap (arcs_of L) e, h.length, h.arcs, less.1 (omega (arith, ap (length_of L) e, h.length))) in
        record {
          relaxing = relax_better h.relaxing (λ e b q other le. omega arith) ((low, high), usable) from (λ y. rw (h.length, h.arcs) less) (rw (h.length, h.arcs) new);
          full = full_labelled n sound.nodes_high h.full v (l + w) (k + 1) a.head_low a.head_high (omega arith);
          length = sym (new.length u known apart) ∙ h.length;
          arcs = sym (new.arcs u known apart) ∙ h.arcs;
        })
        (λ t.
        let after = before_false (l + w) (k + 1) (length_of L v) (arcs_of L v) t in
        record {
          relaxing = relax_none h.relaxing (λ e b q other le. omega arith) (λ b q. record {
            labelled = (a.head_low, a.head_high, omega arith);
            label = NotAfter_as refl refl (omega (arith, ap (length_of L) q, h.length)) (omega (arith, ap (arcs_of L) q, h.arcs)) after;
          });
          full = h.full;
          length = h.length;
          arcs = h.arcs;
        })

    step : Half R keep n m s c u l k i (arc_step R keep u l k (i - 1) L)
    unfolding arc_step laid
    step =
        let back : i - 1 + 1 ≡ i = omega arith in
        cond_both (eqb (at R.tails i) u && keep (i - 1 + 1)) _ L (Half R keep n m s c u l k i)
        (λ t. let y = and_true (eqb (at R.tails i) u) _ t in offer (eqb-true _ u y.0) (ap keep (sym back) ∙ y.1))
        (λ t.
        record {
          relaxing = relax_none h.relaxing (λ e b q other le. omega arith) (λ b q. absurd (false≢true (sym t ∙ and_yes (eq-eqb _ u q) (ap keep back ∙ b.1))));
          full = h.full;
          length = h.length;
          arcs = h.arcs;
        })

  steps : {s c u l k : ℕ} {L : Labels} → l ≤ 511_000_000 → Half R keep n m s c u l k 0 L → (j : ℕ) → j ≤ m → Half R keep n m s c u l k j (relaxed R keep u l k L j)
  unfolding relaxed
  steps near h zero le = h
  steps {s} {c} {u} {l} {k} {L} near h (suc j) le =
      let p : suc j - 1 ≡ j = omega arith in
      let r = relaxed R keep u l k L j in
      subst (λ (x : ℕ). Half R keep n m s c u l k (suc j) (arc_step R keep u l k x r)) p
      (step near (suc j) (omega arith) le (subst (λ (x : ℕ). Half R keep n m s c u l k x r) (sym p) (steps near h j (omega arith))))

  -- ---- The next node and its label

  module _ {s c u : ℕ} {L : Labels} (stage : Stage R keep n m s c L) (next : Next (seen n L) u) where
    -- no shortest length exceeds 511,000,000
    pub next_near : (arcs_of L u < n) × (length_of L u ≤ 511_000_000)
    unfolding seen
    next_near =
        let P = stage.progress in
        let k = next.labelled in
        let few = few_arcs P next k.0 k.1 u k in
        (few, omega (arith, walk_light (only-within (laid-within sound)) (P.walk u k), sound.nodes_high))

    pub stage_settle : Stage R keep n m s (c + 1) (settle_of R keep m L u)
    unfolding settle_of marked seen laid
    stage_settle =
        let k = next.labelled in
        let begun = settle {Seen = λ e. e ≤ 0} stage.progress next k.0 k.1 (seen-marked n sound.nodes_high stage.full u k.0 k.1) (λ e a q le. omega (arith, a.0.0)) in
        let done = steps next_near.1 (record { relaxing = begun; full = full_marked n sound.nodes_high stage.full u; length = refl; arcs = refl }) m (omega arith) in
        record { progress = rw (add-one c) (relaxed_all done.relaxing (λ e a q. a.0.1)); full = done.full }
