-- How labels begin, are marked and are changed, as the mathematics of searches sees it.
use Prim.Native.Nat.{ℕ, ◌-◌, ◌<◌, ◌≤◌}
use native.Mathlib.Omega.{arith}
use native.Mathlib.Decide.{ℕ_discrete}
use mathlib.Core.Bool.{true, false, false≢true}
use mathlib.Core.Path.{◌≡◌, refl, sym, ◌∙◌}
use mathlib.Core.Logic.{◌≢◌}
use mathlib.Core.List.{List}
use lib.ListN.{length, get_or, set, replicate, length-set, length-replicate, get_or-replicate}
use lib.Seq.{get_or-set_same, get_or-set_other}
use Rattle.walks.proofs.Marking.{Started, Marked}
use Rattle.walks.proofs.Relaxing.{Relabelled}
use Rattle.settling.specs.declared.Labels.{Labels}
use Rattle.settling.specs.Labels.{none, start_of, labelled, marked}
use Rattle.settling.specs.Seen.{seen}
use Rattle.settling.specs.Stage.{Sized, Full}

-- a place of 1..512 stored to, and the others
module _ {A : Type 0} (row : List A) (v : ℕ) (x d : A) where
  place_same : 1 ≤ v → v ≤ 512 → length row ≡ 512 → get_or (set row (v - 1) x) (v - 1) d ≡ x
  place_same low high long = get_or-set_same row (v - 1) x d (omega arith)

  place_other : 1 ≤ v → (w : ℕ) → 1 ≤ w → w ≢ v → get_or (set row (v - 1) x) (w - 1) d ≡ get_or row (w - 1) d
  place_other low w low' other = get_or-set_other row (v - 1) (w - 1) x d (omega arith)

set_most : (row : List ℕ) (v x : ℕ) → 1 ≤ v → v ≤ 512 → length row ≡ 512 → x ≤ none
    → ((w : ℕ) → 1 ≤ w → w ≤ 512 → get_or row (w - 1) 0 ≤ none) → (w : ℕ) → 1 ≤ w → w ≤ 512 → get_or (set row (v - 1) x) (w - 1) 0 ≤ none
set_most row v x low high long h old w low' high' = elim (ℕ_discrete w v) [
  | yes e ↦ rw (e, place_same row v x 0 low high long) h
  | no e ↦ rw (place_other row v x 0 low w low' e) (old w low' high')
]

pub sized_labelled : {L : Labels} → Sized L → (v l k : ℕ) → Sized (labelled L v l k)
unfolding labelled
sized_labelled f v l k = record { lengths = simp length-set f.lengths; counts = simp length-set f.counts; marks = f.marks }

module _ (n : ℕ) (most : n ≤ 512) where
  pub full_start : (s : ℕ) → 1 ≤ s → s ≤ n → Full n (start_of s)
  unfolding start_of
  full_start s low high = record {
    sized = record {
      lengths = length-set (replicate 512 none) (s - 1) 0 ∙ length-replicate 512 none;
      counts = length-replicate {A = ℕ} 512 0;
      marks = length-replicate 512 false;
    };
    most = set_most (replicate 512 none) s 0 low (omega arith) (length-replicate 512 none) (omega arith) (λ w low' high'. omega (arith, get_or-replicate 512 (w - 1) none 0 (omega arith)));
    beyond = λ v after up. rw (get_or-set_other (replicate 512 none) (s - 1) v 0 0 (λ z. omega arith), get_or-replicate 512 v none 0 up) (omega arith);
  }

  pub full_labelled : {L : Labels} → Full n L → (v l k : ℕ) → 1 ≤ v → v ≤ n → l ≤ none → Full n (labelled L v l k)
  unfolding labelled
  full_labelled {L} f v l k low high h = record {
    sized = sized_labelled f.sized v l k;
    most = set_most L.length v l low (omega arith) f.sized.lengths h f.most;
    beyond = λ w after up. rw (get_or-set_other L.length (v - 1) w l 0 (λ z. omega arith)) (f.beyond w after up);
  }

  pub full_marked : {L : Labels} → Full n L → (u : ℕ) → Full n (marked L u)
  unfolding marked
  full_marked f u = record {
    sized = record { lengths = f.sized.lengths; counts = f.sized.counts; marks = simp length-set f.sized.marks };
    most = f.most;
    beyond = f.beyond;
  }

  pub seen_start : (s : ℕ) → 1 ≤ s → s ≤ n → Started (seen n (start_of s)) s
  unfolding seen start_of
  seen_start s low high =
      let here = place_same (replicate 512 none) s 0 0 low (omega arith) (length-replicate 512 none) in
      record {
        labelled = (low, high, omega arith);
        length = here;
        arcs = get_or-replicate 512 (s - 1) 0 0 (omega arith);
        alone = λ v x. elim (ℕ_discrete v s) [
          | yes e ↦ e
          | no e ↦ absurd (omega (arith, x.2, place_other (replicate 512 none) s 0 0 low v x.0 e, get_or-replicate 512 (v - 1) none 0 (omega (arith, x.1))))
        ];
        none = λ v x. false≢true (sym (get_or-replicate 512 (v - 1) false false (omega (arith, x.0, x.1))) ∙ x.2);
      }

  module _ {L : Labels} (full : Full n L) where
    pub seen-marked : (u : ℕ) → 1 ≤ u → u ≤ n → Marked (seen n L) (seen n (marked L u)) u
    unfolding seen marked
    seen-marked u low high =
        let other = place_other L.settled u true false low in
        record {
          now = (low, high, place_same L.settled u true false low (omega arith) full.sized.marks);
          settled = λ x apart. ((λ d. (d.0, d.1, other x d.0 apart ∙ d.2)), (λ d. (d.0, d.1, sym (other x d.0 apart) ∙ d.2)));
          labelled = λ x. ((λ y. y), (λ y. y));
          length = λ x. refl;
          arcs = λ x. refl;
        }

    pub seen-labelled : (v l k : ℕ) → 1 ≤ v → v ≤ n → l < none → Relabelled (seen n L) (seen n (labelled L v l k)) v l k
    unfolding seen labelled
    seen-labelled v l k low high near =
        let here = place_same L.length v l 0 low (omega arith) full.sized.lengths in
        let other = place_other L.length v l 0 low in
        record {
          now = (low, high, omega arith);
          now_length = sym here;
          now_arcs = sym (place_same L.arcs v k 0 low (omega arith) full.sized.counts);
          labelled = λ x apart. ((λ y. (y.0, y.1, omega (arith, other x y.0 apart, y.2))), (λ y. (y.0, y.1, omega (arith, other x y.0 apart, y.2))));
          length = λ x y apart. sym (other x y.0 apart);
          arcs = λ x y apart. sym (place_other L.arcs v k 0 low x y.0 apart);
          settled = λ x. ((λ y. y), (λ y. y));
        }
