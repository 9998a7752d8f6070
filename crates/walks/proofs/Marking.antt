-- A search begins with s alone labelled; a step of it marks the next node u as settled, with no arc out of u seen yet.
use mathlib.Core.Path.{◌≡◌, sym, subst, ap, ◌∙◌}
use mathlib.Core.Logic.{◌↔◌, ◌≢◌}
use Prim.Native.Nat.{ℕ, suc, ◌+◌, ◌≤◌}
use native.Mathlib.Omega.{arith}
use native.Mathlib.Decide.{ℕ_discrete, map_dec}
use Rattle.walks.specs.Walk.{Net, empty}
use Rattle.walks.proofs.WalkLaws.{sized, ends_at}
use Rattle.walks.specs.Order.{NotAfter}
use Rattle.walks.proofs.OrderLaws.{NotAfter_refl, NotAfter_as, before_as, before_NotAfter}
use Rattle.walks.proofs.CountLaws.{count_none, count_more}
use Rattle.walks.specs.Settling.{Labelling, Relaxed, Progress, All, Next}

-- ---- The beginning: s alone has a label, and no node is settled

pub record Started (L : Labelling) (s : ℕ) : Type 0 where
  pub labelled : L.Labelled s
  pub length : L.length s ≡ 0
  pub arcs : L.arcs s ≡ 0
  pub alone : (v : ℕ) → L.Labelled v → v ≡ s
  pub none : (v : ℕ) → ¬ L.Settled v

pub started : {N : Net} (n : ℕ) {s : ℕ} {L : Labelling} → Started L s → Progress N n s L All 0
started {N} n {s} {L} b = record {
  start = b.labelled;
  start-length = b.length;
  start-arcs = b.arcs;
  either = λ v. no (b.none v);
  settled_labelled = λ v d. absurd (b.none v d);
  walk = λ v k. sized (sym (ap L.length (b.alone v k) ∙ b.length)) (sym (ap L.arcs (b.alone v k) ∙ b.arcs)) (ends_at (sym (b.alone v k)) empty);
  relaxed = λ e a i d. absurd (b.none _ d);
  order = λ u v d k o. absurd (b.none u d);
  count = count_none b.none n;
  few = λ v k. omega (arith, ap L.arcs (b.alone v k), b.arcs);
}

-- ---- A node u is settled

-- the arcs out of u that `Seen` tells are relaxed, and those out of all other settled nodes
pub record Relaxing (N : Net) (n s : ℕ) (L : Labelling) (u : ℕ) (Seen : ℕ → Type 0) (c : ℕ) : Type 0 where
  pub progress : Progress N n s L (λ e. N.tail e ≡ u → Seen e) c
  pub settled : L.Settled u
  pub last : (x : ℕ) → L.Settled x → NotAfter (L.length x) (L.arcs x) (L.length u) (L.arcs u)
  pub room : L.arcs u + 1 ≤ c

-- L' is L with u settled
pub record Marked (L L' : Labelling) (u : ℕ) : Type 0 where
  pub now : L'.Settled u
  pub settled : (x : ℕ) → x ≢ u → L.Settled x ↔ L'.Settled x
  pub labelled : (x : ℕ) → L.Labelled x ↔ L'.Labelled x
  pub length : (x : ℕ) → L.length x ≡ L'.length x
  pub arcs : (x : ℕ) → L.arcs x ≡ L'.arcs x

pub settle : {N : Net} {n s c u : ℕ} {L L' : Labelling} {Seen : ℕ → Type 0}
    → Progress N n s L All c → Next L u → 1 ≤ u → u ≤ n → Marked L L' u
    → ((e : ℕ) → N.Arc e → N.tail e ≡ u → ¬ Seen e)
    → Relaxing N n s L' u Seen (suc c)
settle {N} {n} {s} {c} {u} {L} {L'} {Seen} P h low high m unseen = record {
  progress = record {
    start = (m.labelled s).0 P.start;
    start-length = omega (arith, m.length s, P.start-length);
    start-arcs = omega (arith, m.arcs s, P.start-arcs);
    either = λ v. elim (ℕ_discrete v u) [
      | yes e ↦ yes (subst L'.Settled (sym e) m.now)
      | no e ↦ map_dec (m.settled v e).0 (m.settled v e).1 (P.either v)
    ];
    settled_labelled = λ v d. elim (ℕ_discrete v u) [
      | yes e ↦ (m.labelled v).0 (subst L.Labelled (sym e) h.labelled)
      | no e ↦ (m.labelled v).0 (P.settled_labelled v ((m.settled v e).1 d))
    ];
    walk = λ v k. sized (m.length v) (m.arcs v) (P.walk v ((m.labelled v).1 k));
    relaxed = λ e a seen d. elim (ℕ_discrete (N.tail e) u) [
      | yes p ↦ absurd (unseen e a p (seen p))
      | no p ↦ again e (P.relaxed e a tt ((m.settled _ p).1 d))
    ];
    order = λ x v d k o. before_as (m.length x) (m.arcs x) (m.length v) (m.arcs v) (elim (ℕ_discrete x u) [
      | yes e ↦ rw e (h.first v ((m.labelled v).1 k) (still v o) (other v o))
      | no e ↦ P.order x v ((m.settled x e).1 d) ((m.labelled v).1 k) (still v o)
    ]);
    count = count_more u low high h.unsettled m.now m.settled P.count;
    few = λ v k. omega (arith, m.arcs v, P.few v ((m.labelled v).1 k));
  };
  settled = m.now;
  last = λ x d. NotAfter_as (m.length x) (m.arcs x) (m.length u) (m.arcs u) (elim (ℕ_discrete x u) [
    | yes e ↦ rw e (NotAfter_refl _ _)
    | no e ↦ before_NotAfter (P.order x u ((m.settled x e).1 d) h.labelled h.unsettled)
  ]);
  room = omega (arith, m.arcs u, P.few u h.labelled);
}
  where
    again : (e : ℕ) → Relaxed N L e → Relaxed N L' e
    again e r = record {
      labelled = (m.labelled _).0 r.labelled;
      label = NotAfter_as (m.length _) (m.arcs _) (omega (arith, m.length (N.tail e))) (omega (arith, m.arcs (N.tail e))) r.label;
    }

    other : (v : ℕ) → ¬ L'.Settled v → v ≢ u
    other v o e = o (subst L'.Settled (sym e) m.now)

    still : (v : ℕ) → ¬ L'.Settled v → ¬ L.Settled v
    still v o d = o ((m.settled v (other v o)).0 d)
