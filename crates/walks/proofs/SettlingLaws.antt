-- Why a search's answer is right: labels of settled nodes, and of the next one, are the best.
use mathlib.Core.Path.{refl, sym}
use mathlib.Core.Logic.{◌≢◌, ◌⊎◌, inl, inr}
use Prim.Native.Nat.{ℕ, suc}
use native.Mathlib.Omega.{arith}
use native.Mathlib.Decide.{ℕ_discrete}
use Rattle.walks.specs.Walk.{Net, Walk, empty, then}
use Rattle.walks.specs.Order.{Less, NotAfter}
use Rattle.walks.proofs.OrderLaws.{NotAfter_refl, NotAfter_trans, NotAfter_less, less_NotAfter, less_not, less_weak, less_add, NotAfter_both, NotAfter_add, NotAfter_as, before_as, before_NotAfter, before_not}
use Rattle.walks.specs.Least.{Reached, Best}
use Rattle.walks.proofs.LeastLaws.{best_first, first_best, best_at, best_length, best_count}
use Rattle.walks.proofs.CountLaws.{count_same}
use Rattle.walks.specs.Settled.{Earlier, Settled, found, missed}
use Rattle.walks.specs.Settling.{Labelling, Relaxed, Progress, All, Next}

-- ---- What a search knows of every walk

module _ {N : Net} {n s : ℕ} {L : Labelling} {c : ℕ} (P : Progress N n s L All c) where
  -- A walk to v: v has a label no later than the walk, or some node not yet settled has a label that comes before it
  reach : {v l k : ℕ} → Walk N s v l k → (L.Labelled v × NotAfter (L.length v) (L.arcs v) l k) ⊎ ((x : ℕ) × (L.Labelled x) × (¬ L.Settled x) × Less (L.length x) (L.arcs x) l k)
  reach empty = inl (P.start, NotAfter_as (sym P.start-length) (sym P.start-arcs) refl refl (NotAfter_refl 0 0))
  reach (then {l = l} {k = k} e a w) = elim (reach w) [
    | inl h ↦ elim (P.either (N.tail e)) [
      | yes d ↦ let r : Relaxed N L e = P.relaxed e a tt d in inl (r.labelled, NotAfter_trans r.label (NotAfter_add (N.weight e) h.1))
      | no d ↦ inr (N.tail e, h.0, d, NotAfter_less h.1 (less_add l k (N.weight e)))
    ]
    | inr x ↦ inr (x.0, x.1, x.2, less_NotAfter x.3 (less_weak (less_add l k (N.weight e))))
  ]

  -- a label of a settled node, or of the next, is the best
  module _ {v : ℕ} (known : L.Labelled v) (first : (x : ℕ) → L.Labelled x → ¬ L.Settled x → NotAfter (L.length v) (L.arcs v) (L.length x) (L.arcs x)) where
    best_label : Best N s v (L.length v) (L.arcs v)
    best_label = first_best (P.walk v known) λ l j w. elim (reach w) [
      | inl h ↦ h.1
      | inr x ↦ less_weak (NotAfter_less (first x.0 x.1 x.2) x.3)
    ]

  pub settled_best : (v : ℕ) → L.Settled v → Best N s v (L.length v) (L.arcs v)
  settled_best v d = best_label (P.settled_labelled v d) λ x a b. before_NotAfter (P.order v x d a b)

  pub next_first : {u : ℕ} → Next L u → (x : ℕ) → L.Labelled x → ¬ L.Settled x → NotAfter (L.length u) (L.arcs u) (L.length x) (L.arcs x)
  next_first {u} h x a b = elim (ℕ_discrete x u) [
    | yes e ↦ rw e (NotAfter_refl _ _)
    | no e ↦ before_NotAfter (h.first x a b e)
  ]

  pub next_best : (u : ℕ) → Next L u → Best N s u (L.length u) (L.arcs u)
  next_best u h = best_label h.labelled (next_first h)

  -- ---- The answer when the next node is the target

  -- its own triple does not come before it
  earlier_other : (u v : ℕ) → Next L u → Earlier N s u (L.length u) (L.arcs u) v → v ≢ u
  earlier_other u v h e p =
      let b = best_at p e.best in
      let b' = next_best u h in
      omega (arith, (e.before.1 (best_length b b')).1 (best_count b b'))

  -- the nodes settled are those whose triples come before the next node's
  pub earlier_settled : (u v : ℕ) → Next L u → Earlier N s u (L.length u) (L.arcs u) v → L.Settled v
  earlier_settled u v h e = elim (reach e.best.walk) [
    | inl r ↦ elim (P.either v) [
      | yes d ↦ d
      | no d ↦
          let same = NotAfter_both r.1 (best_first e.best (P.walk v r.0)) in
          absurd (before_not e.before (before_as refl refl same.0 same.1 (h.first v r.0 d (earlier_other u v h e))))
    ]
    | inr x ↦ absurd (less_not x.3 (NotAfter_trans (before_NotAfter e.before) (next_first h x.0 x.1 x.2)))
  ]

  pub settled_earlier : (u v : ℕ) → Next L u → L.Settled v → Earlier N s u (L.length u) (L.arcs u) v
  settled_earlier u v h d = record { length = L.length v; count = L.arcs v; best = settled_best v d; before = P.order v u d h.labelled h.unsettled }

  pub found_count : (t : ℕ) → Next L t → Settled N n s t (suc c)
  found_count t h = found (next_best t h) (count_same (λ v a b. (settled_earlier t v h, earlier_settled t v h)) P.count)

  -- ---- The answer when no node is left to settle

  module _ (none : (v : ℕ) → L.Labelled v → ¬ ¬ L.Settled v) where
    pub reached_settled : (v : ℕ) → Reached N s v → L.Settled v
    reached_settled v r = elim (reach r.walk) [
      | inl h ↦ elim (P.either v) [ yes d ↦ d | no d ↦ absurd (none v h.0 d) ]
      | inr x ↦ absurd (none x.0 x.1 x.2)
    ]

    pub settled_reached : (v : ℕ) → L.Settled v → Reached N s v
    settled_reached v d = record { length = L.length v; count = L.arcs v; walk = P.walk v (P.settled_labelled v d) }

    pub missed_count : (t : ℕ) → ¬ L.Settled t → Settled N n s t c
    missed_count t h = missed (λ r. h (reached_settled t r)) (count_same (λ v a b. (settled_reached v, reached_settled v)) P.count)
