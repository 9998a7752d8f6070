-- The arcs out of the node u that is being settled are relaxed, one after the other.
use mathlib.Core.Path.{◌≡◌, refl, sym, subst, ap, ◌∙◌}
use mathlib.Core.Logic.{◌↔◌, ◌≢◌}
use Prim.Native.Nat.{ℕ, ◌+◌}
use native.Mathlib.Omega.{arith}
use native.Mathlib.Decide.{ℕ_discrete, map_dec}
use Rattle.walks.specs.Walk.{Net}
use Rattle.walks.proofs.WalkLaws.{sized, longer}
use Rattle.walks.specs.Order.{Less, NotAfter}
use Rattle.walks.proofs.OrderLaws.{NotAfter_refl, NotAfter_trans, NotAfter_less, less_weak, less_not, less_add, less_before, NotAfter_as, before_as}
use Rattle.walks.proofs.CountLaws.{count_same}
use Rattle.walks.specs.Settling.{Labelling, Relaxed, Progress, All}
use Rattle.walks.proofs.Marking.{Relaxing}

-- the same labels, when other arcs are told as seen and these are relaxed too
told : {N : Net} {n s c : ℕ} {L : Labelling} {Seen Seen' : ℕ → Type 0}
    → Progress N n s L Seen c → ((e : ℕ) → N.Arc e → Seen' e → L.Settled (N.tail e) → Relaxed N L e) → Progress N n s L Seen' c
told P relaxed = record {
  start = P.start;
  start-length = P.start-length;
  start-arcs = P.start-arcs;
  either = P.either;
  settled_labelled = P.settled_labelled;
  walk = P.walk;
  relaxed = relaxed;
  order = P.order;
  count = P.count;
  few = P.few;
}

-- ---- All arcs out of u are seen

pub relaxed_all : {N : Net} {n s c u : ℕ} {L : Labelling} {Seen : ℕ → Type 0}
    → Relaxing N n s L u Seen c → ((e : ℕ) → N.Arc e → N.tail e ≡ u → Seen e) → Progress N n s L All c
relaxed_all R all = told R.progress (λ e a seen d. R.progress.relaxed e a (all e a) d)

-- ---- One arc i more is seen. `Seen'` tells of no arc out of u but i that `Seen` does not tell of.

abbrev pub OneMore : Net → ℕ → ℕ → (ℕ → Type 0) → (ℕ → Type 0) → Type 0
OneMore N u i Seen Seen' = (e : ℕ) → N.Arc e → N.tail e ≡ u → e ≢ i → Seen' e → Seen e

-- it is no arc out of u, or is relaxed as it is
pub relax_none : {N : Net} {n s c u i : ℕ} {L : Labelling} {Seen Seen' : ℕ → Type 0}
    → Relaxing N n s L u Seen c → OneMore N u i Seen Seen' → (N.Arc i → N.tail i ≡ u → Relaxed N L i)
    → Relaxing N n s L u Seen' c
relax_none {N} {u = u} {i = i} {L = L} R more ok =
    let P = R.progress in
    record {
      progress = told P (λ e a seen d. elim (ℕ_discrete e i) [
        | yes p ↦ elim (ℕ_discrete (N.tail e) u) [
          | yes q ↦ subst (Relaxed N L) (sym p) (ok (subst N.Arc p a) (ap N.tail (sym p) ∙ q))
          | no q ↦ P.relaxed e a (λ q'. absurd (q q')) d
        ]
        | no p ↦ P.relaxed e a (λ q. more e a q p (seen q)) d
      ]);
      settled = R.settled;
      last = R.last;
      room = R.room;
    }

-- L' is L with the label (d, k) at v
pub record Relabelled (L L' : Labelling) (v d k : ℕ) : Type 0 where
  pub now : L'.Labelled v
  pub now_length : d ≡ L'.length v
  pub now_arcs : k ≡ L'.arcs v
  pub labelled : (x : ℕ) → x ≢ v → L.Labelled x ↔ L'.Labelled x
  pub length : (x : ℕ) → L.Labelled x → x ≢ v → L.length x ≡ L'.length x
  pub arcs : (x : ℕ) → L.Labelled x → x ≢ v → L.arcs x ≡ L'.arcs x
  pub settled : (x : ℕ) → L.Settled x ↔ L'.Settled x

-- it is an arc out of u, and its head had no label or a later one
pub relax_better : {N : Net} {n s c u i : ℕ} {L L' : Labelling} {Seen Seen' : ℕ → Type 0}
    → Relaxing N n s L u Seen c → OneMore N u i Seen Seen' → N.Arc i → N.tail i ≡ u
    → (L.Labelled (N.head i) → Less (L.length u + N.weight i) (L.arcs u + 1) (L.length (N.head i)) (L.arcs (N.head i)))
    → Relabelled L L' (N.head i) (L.length u + N.weight i) (L.arcs u + 1)
    → Relaxing N n s L' u Seen' c
relax_better {N} {n} {s} {c} {u} {i} {L} {L'} {Seen} {Seen'} R more arc from better m = record {
  progress = record {
    start = (m.labelled s start_other).0 P.start;
    start-length = omega (arith, m.length s P.start start_other, P.start-length);
    start-arcs = omega (arith, m.arcs s P.start start_other, P.start-arcs);
    either = λ x. map_dec (m.settled x).0 (m.settled x).1 (P.either x);
    settled_labelled = λ x d. (m.labelled x (other x ((m.settled x).1 d))).0 (P.settled_labelled x ((m.settled x).1 d));
    walk = λ x k. elim (ℕ_discrete x v) [
      | yes e ↦ rw e (sized m.now_length m.now_arcs (longer i arc from (P.walk u (P.settled_labelled u R.settled))))
      | no e ↦ sized (m.length x ((m.labelled x e).1 k) e) (m.arcs x ((m.labelled x e).1 k) e) (P.walk x ((m.labelled x e).1 k))
    ];
    relaxed = λ e a seen d. elim (ℕ_discrete e i) [
      | yes p ↦ subst (Relaxed N L') (sym p) itself
      | no p ↦ again e (P.relaxed e a (λ q. more e a q p (seen q)) ((m.settled _).1 d)) ((m.settled _).1 d)
    ];
    order = λ x y d k o. elim (ℕ_discrete y v) [
      | yes e ↦ rw e (before_as (length_settled x ((m.settled x).1 d)) (arcs_settled x ((m.settled x).1 d)) m.now_length m.now_arcs
          (less_before (NotAfter_less (R.last x ((m.settled x).1 d)) (less_add (L.length u) (L.arcs u) (N.weight i)))))
      | no e ↦ before_as (length_settled x ((m.settled x).1 d)) (arcs_settled x ((m.settled x).1 d)) (m.length y ((m.labelled y e).1 k) e) (m.arcs y ((m.labelled y e).1 k) e)
          (P.order x y ((m.settled x).1 d) ((m.labelled y e).1 k) (λ d'. o ((m.settled y).0 d')))
    ];
    count = count_same (λ x a b. m.settled x) P.count;
    few = λ x k. elim (ℕ_discrete x v) [
      | yes e ↦ rw e (omega (arith, m.now_arcs, R.room))
      | no e ↦ omega (arith, m.arcs x ((m.labelled x e).1 k) e, P.few x ((m.labelled x e).1 k))
    ];
  };
  settled = (m.settled u).0 R.settled;
  last = λ x d. NotAfter_as (length_settled x ((m.settled x).1 d)) (arcs_settled x ((m.settled x).1 d)) (length_settled u R.settled) (arcs_settled u R.settled) (R.last x ((m.settled x).1 d));
  room = omega (arith, arcs_settled u R.settled, R.room);
}
  where
    v : ℕ
    v = N.head i

    P : Progress N n s L (λ e. N.tail e ≡ u → Seen e) c
    P = R.progress

    later : NotAfter (L.length u) (L.arcs u) (L.length u + N.weight i) (L.arcs u + 1)
    later = less_weak (less_add (L.length u) (L.arcs u) (N.weight i))

    -- the labels of settled nodes stand
    other : (x : ℕ) → L.Settled x → x ≢ v
    other x d e =
        less_not (better (subst L.Labelled e (P.settled_labelled x d)))
        (NotAfter_as (ap L.length e) (ap L.arcs e) refl refl (NotAfter_trans (R.last x d) later))

    length_settled : (x : ℕ) → L.Settled x → L.length x ≡ L'.length x
    length_settled x d = m.length x (P.settled_labelled x d) (other x d)

    arcs_settled : (x : ℕ) → L.Settled x → L.arcs x ≡ L'.arcs x
    arcs_settled x d = m.arcs x (P.settled_labelled x d) (other x d)

    start_other : s ≢ v
    start_other e =
        let b = better (subst L.Labelled e P.start) in
        let l : L.length v ≡ 0 = sym (ap L.length e) ∙ P.start-length in
        let k : L.arcs v ≡ 0 = sym (ap L.arcs e) ∙ P.start-arcs in
        omega (arith, b.1 (omega arith))

    itself : Relaxed N L' i
    itself = record {
      labelled = m.now;
      label = NotAfter_as m.now_length m.now_arcs (omega (arith, length_settled u R.settled, ap L'.length from)) (omega (arith, arcs_settled u R.settled, ap L'.arcs from)) (NotAfter_refl _ _);
    }

    again : (e : ℕ) → Relaxed N L e → L.Settled (N.tail e) → Relaxed N L' e
    again e r t = elim (ℕ_discrete (N.head e) v) [
      | yes q ↦ record {
        labelled = subst L'.Labelled (sym q) m.now;
        label = NotAfter_as (m.now_length ∙ ap L'.length (sym q)) (m.now_arcs ∙ ap L'.arcs (sym q)) (omega (arith, length_settled _ t)) (omega (arith, arcs_settled _ t))
            (NotAfter_trans (less_weak (better (subst L.Labelled q r.labelled))) (NotAfter_as (ap L.length q) (ap L.arcs q) refl refl r.label));
      }
      | no q ↦ record {
        labelled = (m.labelled _ q).0 r.labelled;
        label = NotAfter_as (m.length _ r.labelled q) (m.arcs _ r.labelled q) (omega (arith, length_settled _ t)) (omega (arith, arcs_settled _ t)) r.label;
      }
    ]
