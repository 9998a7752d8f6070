-- The node of the least key is the next node to be settled.
use Prim.Native.Nat.{ℕ, ◌+◌, ◌-◌, ◌%◌, ◌<◌, ◌≤◌}
use native.Mathlib.Omega.{arith}
use native.Mathlib.Decide.{ℕ_discrete, dec_lt}
use mathlib.Core.Bool.{false, false≢true}
use mathlib.Core.Path.{◌≡◌, refl, sym, ap, ◌∙◌}
use mathlib.Core.Logic.{◌≢◌, inl, inr}
use mathlib.Core.List.{List}
use lib.ListN.{get_or}
use Rattle.walks.specs.Order.{Before}
use Rattle.walks.specs.Settling.{Next}
use Rattle.settling.specs.declared.Labels.{Labels}
use Rattle.std.specs.Prelude.{Option, Some, None}
use Rattle.std.proofs.lemmas.Bool.{cases_Bool}
use Rattle.settling.specs.Labels.{none, length_of, arcs_of, settled_of}
use Rattle.settling.specs.Nearest.{nearest_of}
use Rattle.settling.proofs.NearestIsNext.{nearest_next, nearest_left}
use Rattle.settling.specs.Seen.{seen}
use Rattle.frontier.specs.Tree.{key_of, far, pick_of}
use Rattle.frontier.proofs.Keys.{pick_none, pick_some}
use Rattle.frontier.proofs.Leaves.{root_least, root_leaf}
use Rattle.settling.specs.Stage.{Full}
use Rattle.settling.specs.Front.{leaf_key, Front}
use Rattle.settling.proofs.TreeFollows.{leaf_open, leaf_by}

-- keys are ordered as their triples
key_before : (d k u d' k' v : ℕ) → k ≤ 512 → k' ≤ 512 → 1 ≤ u → u ≤ 512 → v < 512 → Before d k u d' k' (v + 1) → key_of d k (u - 1) ≤ key_of d' k' v
key_before d k u d' k' v few few' low high up b = elim (dec_lt d d') [
  | yes h ↦ omega arith
  | no h ↦
      let e = b.1 (omega (arith, b.0)) in
      elim (dec_lt k k') [
        | yes g ↦ omega (arith, b.0)
        | no g ↦ omega (arith, b.0, e.0, e.1 (omega (arith, e.0)))
      ]
]

module _ {n : ℕ} {L : Labels} {t : List ℕ} (high : n ≤ 512) (front : Front L t) (full : Full n L) (few : (v : ℕ) → (seen n L).Labelled v → arcs_of L v ≤ 512) where
  -- an open leaf is that of a labelled node which is not settled
  labelled : (v : ℕ) → v < 512 → get_or L.length v 0 < none → (seen n L).Labelled (v + 1)
  unfolding seen
  labelled v up h =
      let z : v + 1 - 1 ≡ v = omega arith in
      elim (dec_lt v n) [ yes b ↦ (omega arith, omega arith, rw z h) | no b ↦ absurd (omega (arith, full.beyond v (omega arith) up)) ]

  unsettled : (v : ℕ) → get_or L.settled v false ≡ false → ¬ (seen n L).Settled (v + 1)
  unfolding seen
  unsettled v o d = let z : v + 1 - 1 ≡ v = omega arith in false≢true (sym o ∙ rw z at d.2)

  module _ {u : ℕ} (next : Next (seen n L) u) where
    numbers : (1 ≤ u) × (u ≤ n) × (length_of L u < none)
    unfolding seen
    numbers = next.labelled

    open_still : settled_of L u ≡ false
    unfolding seen
    open_still = elim (cases_Bool (settled_of L u)) [ inl d ↦ absurd (next.unsettled (numbers.0, numbers.1, d)) | inr d ↦ d ]

    order : (v : ℕ) → v < 512 → get_or L.settled v false ≡ false → get_or L.length v 0 < none → v ≢ u - 1
        → Before (length_of L u) (arcs_of L u) u (get_or L.length v 0) (get_or L.arcs v 0) (v + 1)
    unfolding seen
    order v up o h other =
        let z : v + 1 - 1 ≡ v = omega arith in
        rw z at (next.first (v + 1) (labelled v up h) (unsettled v o) (λ e. other (omega arith)))

    arcs_few : (v : ℕ) → v < 512 → get_or L.length v 0 < none → get_or L.arcs v 0 ≤ 512
    arcs_few v up h = let z : v + 1 - 1 ≡ v = omega arith in rw z at (few (v + 1) (labelled v up h))

    abbrev x : ℕ
    x = key_of (length_of L u) (arcs_of L u) (u - 1)

    least_of : (v : ℕ) → v < 512 → x ≤ get_or t (512 + v) 0
    least_of v up =
        let a = numbers in
        let k = few u next.labelled in
        rw (front.leaf v up) (leaf_by (λ (z : ℕ). x ≤ z) (get_or L.settled v false) (get_or L.length v 0) (get_or L.arcs v 0) v
        (λ o h. elim (ℕ_discrete v (u - 1)) [
          | yes e ↦ rw e (omega arith)
          | no e ↦ key_before (length_of L u) (arcs_of L u) u (get_or L.length v 0) (get_or L.arcs v 0) v k (arcs_few v up h) a.0 (omega arith) up (order v up o h e)
        ])
        (omega arith))

    picked : pick_of (get_or t 1 0) ≡ Some u
    picked =
        let a = numbers in
        let k = few u next.labelled in
        let own : get_or t (512 + (u - 1)) 0 ≡ x = front.leaf (u - 1) (omega arith) ∙ leaf_open (length_of L u) (arcs_of L u) (u - 1) open_still a.2 in
        let r = root_leaf front.mended in
        let l = root_least front.mended (u - 1) (omega arith) in
        let e : get_or t 1 0 ≡ x = omega (arith, l, own, r.same, least_of r.place r.high) in
        let q : x % 1_024 ≡ u = omega arith in
        rw e (sym (pick_some x (omega arith)) ∙ ap Some q)

  left : ((v : ℕ) → (seen n L).Labelled v → ¬ ¬ (seen n L).Settled v) → pick_of (get_or t 1 0) ≡ None
  left none_left =
      let r = root_leaf front.mended in
      let w = r.place in
      let e : leaf_key (get_or L.settled w false) (get_or L.length w 0) (get_or L.arcs w 0) w ≡ far =
      leaf_by (λ (z : ℕ). z ≡ far) (get_or L.settled w false) (get_or L.length w 0) (get_or L.arcs w 0) w
      (λ o h. absurd (none_left (w + 1) (labelled w r.high h) (unsettled w o))) refl in
      sym (pick_none _ (omega (arith, r.same, front.leaf w r.high, e)))

  by_pick : (p : Option ℕ) → nearest_of L n ≡ p → pick_of (get_or t 1 0) ≡ p
  by_pick None e = left (nearest_left n L e)
  by_pick (Some u) e = picked (nearest_next n L e)

  pub pick_nearest : pick_of (get_or t 1 0) ≡ nearest_of L n
  pick_nearest = by_pick (nearest_of L n) refl
