-- The tree of keys follows the labels as they start, are marked and are changed.
use Prim.Native.Nat.{ℕ, ◌+◌, ◌-◌, ◌<◌, ◌≤◌}
use native.Mathlib.Omega.{arith}
use native.Mathlib.Decide.{ℕ_discrete, dec_lt}
use mathlib.Core.Bool.{Bool, true, false, not, ◌&&◌}
use mathlib.Core.Path.{◌≡◌, refl, sym, ap, ◌∙◌}
use mathlib.Core.List.{List}
use lib.ListN.{length-set, length-replicate, get_or, get_or-replicate, set, replicate}
use lib.Seq.{get_or-set_same, get_or-set_other}
use lib.Dec.{ltb}
use borrow.Author.Tests.{lt-ltb, le-ltb, not-true, ltb-true}
use Rattle.settling.specs.declared.Labels.{Labels}
use Rattle.std.proofs.lemmas.Bool.{cond-true, cond-false, cond_both}
use Rattle.rules.proofs.AndLaws.{and_yes, and_no, and_true}
use Rattle.settling.specs.Labels.{none, length_of, arcs_of, settled_of, before, start_of, labelled, marked}
use Rattle.frontier.specs.Tree.{key_of, far, Rekeyed}
use Rattle.frontier.proofs.Leaves.{leaf_same, leaf_other, mended_start}
use Rattle.settling.specs.Stage.{Sized}
use Rattle.settling.specs.Front.{leaf_key, Front}
use Rattle.settling.proofs.Offers.{before_true}
use Rattle.settling.proofs.LabelsSeen.{sized_labelled}

pub leaf_open : (l k v : ℕ) {done : Bool} → done ≡ false → l < none → leaf_key done l k v ≡ key_of l k v
unfolding leaf_key
leaf_open l k v d h = cond-true _ _ _ (and_yes (ap not d) (lt-ltb l none h))

leaf_shut : (l k v : ℕ) {done : Bool} → done ≡ true → leaf_key done l k v ≡ far
unfolding leaf_key
leaf_shut l k v d = cond-false _ _ _ (and_no _ (ap not d))

leaf_none : (l k v : ℕ) (done : Bool) → none ≤ l → leaf_key done l k v ≡ far
unfolding leaf_key
leaf_none l k v true h = refl
leaf_none l k v false h = cond-false _ _ _ (le-ltb l none h)

pub leaf_by : (P : ℕ → Type 0) (done : Bool) (l k v : ℕ) → (done ≡ false → l < none → P (key_of l k v)) → P far → P (leaf_key done l k v)
unfolding leaf_key
leaf_by P done l k v f g =
    cond_both (not done && ltb l none) _ _ P
    (λ t. let y = and_true (not done) (ltb l none) t in f (not-true _ y.0) (ltb-true l none y.1))
    (λ t. g)

-- a label that comes before a node's own has the lesser key
pub key_lower : {L : Labels} {t : List ℕ} → Front L t → (v l k : ℕ) → 1 ≤ v → v ≤ 512 → l < none → k ≤ 1_022 → before l k (length_of L v) (arcs_of L v) ≡ true
    → key_of l k (v - 1) ≤ get_or t (512 + (v - 1)) 0
key_lower {L} {t} f v l k low high near few e =
    let b = before_true l k (length_of L v) (arcs_of L v) e in
    rw (f.leaf (v - 1) (omega arith)) (leaf_by (λ (z : ℕ). key_of l k (v - 1) ≤ z) (settled_of L v) (length_of L v) (arcs_of L v) (v - 1)
    (λ o h. elim (dec_lt l (length_of L v)) [ yes g ↦ omega arith | no g ↦ omega (arith, b.0, b.1 (omega (arith, b.0))) ])
    (omega arith))

module _ {L : Labels} {t : List ℕ} (f : Front L t) (v : ℕ) (low : 1 ≤ v) (high : v ≤ 512) where
  module _ {t' : List ℕ} (x : ℕ) (r : Rekeyed t (v - 1) x t') where
    here : get_or t' (512 + (v - 1)) 0 ≡ x
    here = leaf_same f.mended r (omega arith)

    there : (w : ℕ) → w < 512 → (w ≡ v - 1 → ⊥) → get_or t' (512 + w) 0 ≡ leaf_key (get_or L.settled w false) (get_or L.length w 0) (get_or L.arcs w 0) w
    there w h n = leaf_other f.mended r w n ∙ f.leaf w h

    -- v is marked as settled, and its key is taken away
    pub front_marked : x ≡ far → Front (marked L v) t'
    unfolding marked
    front_marked e = record {
      mended = r.mended;
      leaf = λ w h. elim (ℕ_discrete w (v - 1)) [
        | yes q ↦ rw q (here ∙ (e ∙ sym (leaf_shut _ _ (v - 1) (get_or-set_same L.settled (v - 1) true false (omega (arith, f.sized.marks))))))
        | no q ↦ rw (get_or-set_other L.settled (v - 1) w true false q) (there w h q)
      ];
      sized = record { lengths = f.sized.lengths; counts = f.sized.counts; marks = rw length-set f.sized.marks };
    }

    -- v, which is not settled, is labelled anew, and has its key
    pub front_labelled : (l k : ℕ) → l < none → settled_of L v ≡ false → x ≡ key_of l k (v - 1) → Front (labelled L v l k) t'
    unfolding labelled
    front_labelled l k near d e = record {
      mended = r.mended;
      leaf = λ w h. elim (ℕ_discrete w (v - 1)) [
        | yes q ↦
            let a : get_or (set L.length (v - 1) l) (v - 1) 0 ≡ l = get_or-set_same L.length (v - 1) l 0 (omega (arith, f.sized.lengths)) in
            let b : get_or (set L.arcs (v - 1) k) (v - 1) 0 ≡ k = get_or-set_same L.arcs (v - 1) k 0 (omega (arith, f.sized.counts)) in
            rw (q, a, b) (here ∙ (e ∙ sym (leaf_open l k (v - 1) d near)))
        | no q ↦ rw (get_or-set_other L.length (v - 1) w l 0 q, get_or-set_other L.arcs (v - 1) w k 0 q) (there w h q)
      ];
      sized = sized_labelled f.sized v l k;
    }

  -- a settled node labelled anew has no key before and after
  pub front_settled : (l k : ℕ) → settled_of L v ≡ true → Front (labelled L v l k) t
  unfolding labelled
  front_settled l k d = record {
    mended = f.mended;
    leaf = λ w h. elim (ℕ_discrete w (v - 1)) [
      | yes q ↦ rw q (f.leaf (v - 1) (omega arith) ∙ (leaf_shut _ _ (v - 1) d ∙ sym (leaf_shut _ _ (v - 1) d)))
      | no q ↦ rw (get_or-set_other L.length (v - 1) w l 0 q, get_or-set_other L.arcs (v - 1) w k 0 q) (f.leaf w h)
    ];
    sized = sized_labelled f.sized v l k;
  }

-- ---- At the start

pub front_start : (s : ℕ) → 1 ≤ s → s ≤ 512 → {t : List ℕ} (x : ℕ) → Rekeyed (replicate 1_024 far) (s - 1) x t → x ≡ key_of 0 0 (s - 1) → Sized (start_of s) → Front (start_of s) t
unfolding start_of
front_start s low high {t} x r e sized = record {
  mended = r.mended;
  leaf = λ w h. elim (ℕ_discrete w (s - 1)) [
    | yes q ↦
        let a : get_or (set (replicate 512 none) (s - 1) 0) (s - 1) 0 ≡ 0 = get_or-set_same (replicate 512 none) (s - 1) 0 0 (omega (arith, length-replicate 512 none)) in
        let b : get_or {A = ℕ} (replicate 512 0) (s - 1) 0 ≡ 0 = get_or-replicate 512 (s - 1) 0 0 (omega arith) in
        let d : get_or (replicate 512 false) (s - 1) false ≡ false = get_or-replicate 512 (s - 1) false false (omega arith) in
        rw (q, a, b) (leaf_same mended_start r (omega arith) ∙ (e ∙ sym (leaf_open 0 0 (s - 1) d (omega arith))))
    | no q ↦
        let a : get_or (set (replicate 512 none) (s - 1) 0) w 0 ≡ none = get_or-set_other (replicate 512 none) (s - 1) w 0 0 q ∙ get_or-replicate 512 w none 0 h in
        let p : get_or t (512 + w) 0 ≡ far = leaf_other mended_start r w q ∙ get_or-replicate 1_024 (512 + w) far 0 (omega arith) in
        rw (p, a) (sym (leaf_none none _ w _ (omega arith)))
  ];
  sized = sized;
}
