-- The route, traced back by the labels that a search has when its target is the next node.
use mathlib.Core.Path.{◌≡◌, refl, sym}
use mathlib.Core.Logic.{◌⊎◌, inl, inr}
use Prim.Native.Nat.{ℕ, ◌+◌, ◌≤◌}
use native.Mathlib.Omega.{arith}
use Rattle.walks.specs.Walk.{Net}
use Rattle.walks.specs.Order.{NotAfter}
use Rattle.walks.proofs.OrderLaws.{NotAfter_trans, less_not, less_NotAfter, less_add, less_before, NotAfter_refl, NotAfter_as, before_NotAfter}
use Rattle.walks.specs.Least.{Best}
use Rattle.walks.proofs.LeastLaws.{best_sized, best_length, best_count}
use Rattle.walks.specs.Route.{Candidate, Chosen}
use Rattle.walks.proofs.RouteLaws.{no_arcs_start, some_candidate}
use Rattle.walks.specs.Settling.{Labelling, Progress, All, Next}
use Rattle.walks.proofs.SettlingLaws.{settled_best, next_best, next_first, earlier_settled}

-- e is a candidate into v by the labels
pub record Fits (N : Net) (L : Labelling) (v e : ℕ) : Type 0 where
  pub arc : N.Arc e
  pub to : N.head e ≡ v
  pub labelled : L.Labelled (N.tail e)
  pub length : L.length (N.tail e) + N.weight e ≡ L.length v
  pub arcs : L.arcs (N.tail e) + 1 ≡ L.arcs v

module _ {N : Net} {n s t : ℕ} {L : Labelling} {c : ℕ} (P : Progress N n s L All c) (next : Next L t) where
  -- v is settled, or is the target
  traced_best : {v : ℕ} → L.Settled v ⊎ (v ≡ t) → Best N s v (L.length v) (L.arcs v)
  traced_best {v} (inl d) = settled_best P v d
  traced_best (inr p) = rw p (next_best P t next)

  traced_NotAfter : {v : ℕ} → L.Settled v ⊎ (v ≡ t) → NotAfter (L.length v) (L.arcs v) (L.length t) (L.arcs t)
  traced_NotAfter {v} (inl d) = before_NotAfter (P.order v t d next.labelled next.unsettled)
  traced_NotAfter (inr p) = rw p (NotAfter_refl _ _)

  -- the label before t's is settled
  pub fits_settled : {v : ℕ} → L.Settled v ⊎ (v ≡ t) → (e : ℕ) → Fits N L v e → L.Settled (N.tail e)
  fits_settled at e f = elim (P.either (N.tail e)) [
    | yes d ↦ d
    | no d ↦ absurd (less_not (less_add _ _ (N.weight e)) (NotAfter_as (sym f.length) (sym f.arcs) refl refl (NotAfter_trans (traced_NotAfter at) (next_first P next _ f.labelled d))))
  ]

  fits_candidate : {v : ℕ} → L.Settled v ⊎ (v ≡ t) → (e : ℕ) → Fits N L v e → Candidate N s v e
  fits_candidate at e f = record {
    length = _;
    count = _;
    arc = f.arc;
    to = f.to;
    from = settled_best P _ (fits_settled at e f);
    best = best_sized (sym f.length) (sym f.arcs) (traced_best at);
  }

  candidate_fits : {v : ℕ} → L.Settled v ⊎ (v ≡ t) → (e : ℕ) → Candidate N s v e → Fits N L v e
  candidate_fits {v} at e x =
      let l = best_length x.best (traced_best at) in
      let k = best_count x.best (traced_best at) in
      let d : L.Settled (N.tail e) = earlier_settled P t (N.tail e) next (record {
        length = x.length;
        count = x.count;
        best = x.from;
        before = less_before (less_NotAfter (less_add _ _ (N.weight e)) (NotAfter_as (sym l) (sym k) refl refl (traced_NotAfter at)));
      }) in
      record {
        arc = x.arc;
        to = x.to;
        labelled = P.settled_labelled _ d;
        length = omega (arith, best_length x.from (settled_best P _ d));
        arcs = omega (arith, best_count x.from (settled_best P _ d));
      }

  -- the lowest-numbered arc that fits is the arc into v
  pub fits_chosen : {v : ℕ} → L.Settled v ⊎ (v ≡ t) → (e : ℕ) → Fits N L v e → ((i : ℕ) → Fits N L v i → e ≤ i) → Chosen N s v e
  fits_chosen at e f low = record { candidate = fits_candidate at e f; lowest = λ i x. low i (candidate_fits at i x) }

  -- while v's label has arcs, some arc fits; when it has none, v is s
  pub some_fits : {v : ℕ} → L.Settled v ⊎ (v ≡ t) → (L.arcs v ≡ 0) ⊎ ((e : ℕ) × Fits N L v e)
  some_fits at = elim (some_candidate (traced_best at)) [
    | inl h ↦ inl h
    | inr x ↦ inr (x.0, candidate_fits at x.0 x.1)
  ]

  pub traced_start : {v : ℕ} → L.Settled v ⊎ (v ≡ t) → L.arcs v ≡ 0 → v ≡ s
  traced_start at h = no_arcs_start (traced_best at) h
