-- The labels of a search from t in the reverse network are the lengths to t, and tell S(e).
use Prim.Native.Nat.{ℕ, ◌+◌, ◌<◌, ◌≤◌}
use native.Mathlib.Omega.{arith}
use mathlib.Core.Bool.{true}
use mathlib.Core.Path.{◌≡◌, refl, sym, subst, ◌∙◌}
use lib.Dec.{ltb, eqb}
use borrow.Author.Tests.{lt-ltb, ltb-true, eqb-true, eq-eqb}
use Rattle.walks.specs.Walk.{Net, reverse}
use Rattle.walks.proofs.WalkLaws.{backward}
use Rattle.walks.specs.Rows.{Rows, laid, is_open, network, Sound}
use Rattle.walks.proofs.RowsLaws.{turned-network, turned_sound}
use Rattle.walks.specs.Least.{Reached, Dist}
use Rattle.walks.proofs.LeastLaws.{best_dist, dist_turned, dist_sized, dist_unique}
use Rattle.walks.specs.Through.{InS}
use Rattle.rules.proofs.AndLaws.{and_yes, and_true}
use Rattle.settling.specs.Labels.{none, length_of, arcs_of}
use Rattle.settling.specs.LengthsTo.{toward_of, on_shortest, is_in_s}
use Rattle.settling.proofs.SearchIsRight.{Label, best, absent, all_labels}

module _ (w head tail : ℕ) where
  shortest_some : head < none → on_shortest w head tail ≡ eqb (w + head) tail
  unfolding on_shortest
  shortest_some h = and_yes (lt-ltb head none h) refl

-- ---- The labels toward t are the lengths to t

-- l is d(v,t), or the mark of no label where no walk leads from v to t
pub data LengthTo (N : Net) (v t l : ℕ) : Type 0 where
  leads : l ≤ 511_000_000 → Dist N v t l → LengthTo N v t l
  cut : l ≡ none → ¬ Reached N v t → LengthTo N v t l

turned_label : {N : Net} {t v l k : ℕ} → Label (reverse N) t v l k → LengthTo N v t l
turned_label (best near b) = leads near (dist_turned (best_dist b))
turned_label (absent e h) = cut e (λ r. h (record { length = _; count = _; walk = backward r.walk }))

-- ---- S(e) by two such lengths

module _ {N : Net} {e t head tail : ℕ} where
  shortest_InS : N.Arc e → N.weight e ≤ 1_000_000 → LengthTo N (N.head e) t head → LengthTo N (N.tail e) t tail → on_shortest (N.weight e) head tail ≡ true → InS N e t
  unfolding on_shortest
  shortest_InS a light (leads near d) (leads near' d') p =
      let y = and_true (ltb head none) _ p in
      record { rest = head; arc = a; from_head = d; from_tail = dist_sized (sym (eqb-true _ tail y.1)) d' }
  shortest_InS a light (leads near d) (cut far h) p = let y = and_true (ltb head none) _ p in absurd (omega (arith, eqb-true _ tail y.1))
  shortest_InS a light (cut far h) x p = let y = and_true (ltb head none) _ p in absurd (omega (arith, ltb-true head none y.0))

  InS_shortest : LengthTo N (N.head e) t head → LengthTo N (N.tail e) t tail → InS N e t → on_shortest (N.weight e) head tail ≡ true
  InS_shortest (leads near d) (leads near' d') i =
      shortest_some _ head tail (omega arith) ∙ eq-eqb _ tail (omega (arith, dist_unique d i.from_head, dist_unique d' i.from_tail))
  InS_shortest (leads near d) (cut far h) i = absurd (h (record { length = _; count = _; walk = i.from_tail.walk }))
  InS_shortest (cut far h) x i = absurd (h (record { length = _; count = _; walk = i.from_head.walk }))

-- ---- The labels toward t

module _ {R : Rows} {n m : ℕ} (sound : Sound n m R) {t : ℕ} (low : 1 ≤ t) (high : t ≤ n) where
  -- they are the lengths to t
  pub lengths_to_lem : (v : ℕ) → 1 ≤ v → v ≤ n → LengthTo (network m R) v t (length_of (toward_of R n m t) v)
  unfolding network
  lengths_to_lem v v_low v_high =
      let L = toward_of R n m t in
      turned_label (subst (λ (N : Net). Label N t v (length_of L v) (arcs_of L v)) (turned-network m R) (all_labels (turned_sound sound) low high v v_low v_high))

  -- and they tell S(e)
  module _ (e : ℕ) (e-low : 1 ≤ e) (e-high : e ≤ m) where
    pub test_InS : is_in_s R (toward_of R n m t) e ≡ true → InS (network m R) e t
    unfolding laid network
    test_InS p =
        let a = sound.arcs e e-low e-high in
        let y = and_true (is_open R.closures e) _ p in
        shortest_InS ((e-low, e-high), y.0) a.weight_high (lengths_to_lem _ a.head_low a.head_high) (lengths_to_lem _ a.tail_low a.tail_high) y.1

    pub InS_test : InS (network m R) e t → is_in_s R (toward_of R n m t) e ≡ true
    unfolding laid network
    InS_test i =
        let a = sound.arcs e e-low e-high in
        and_yes i.arc.1 (InS_shortest (lengths_to_lem _ a.head_low a.head_high) (lengths_to_lem _ a.tail_low a.tail_high) i)
