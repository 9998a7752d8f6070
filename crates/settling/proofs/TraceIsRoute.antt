-- The trace writes the route: the arcs from the source on, and after them what the row had.
use Prim.Native.Nat.{ℕ, zero, suc, ◌+◌, ◌-◌, ◌<◌, ◌≤◌}
use native.Mathlib.Omega.{arith}
use native.Mathlib.Numerals.{add-one}
use mathlib.Core.Bool.{Bool, true, false≢true, true≢false}
use mathlib.Core.Path.{◌≡◌, refl, sym, subst, ap, ap₂, ◌∙◌}
use mathlib.Core.Logic.{◌⊎◌, inl, inr}
use mathlib.Core.List.{List, [], ◌∷◌, ◌++◌, append_assoc}
use lib.ListN.{length, set, drop, length-set, length-append}
use lib.Seq.{drop-cons, drop-set-lt, get_or-set_same}
use lib.Dec.{eqb}
use borrow.Author.Tests.{eqb-true, eq-eqb}
use Rattle.walks.specs.Walk.{kept}
use Rattle.walks.specs.Rows.{Rows, at, laid, Sound}
use Rattle.walks.specs.Route.{Route, start, into}
use Rattle.walks.specs.Settling.{Next}
use Rattle.walks.proofs.Tracing.{Fits, fits_chosen, some_fits, traced_start, fits_settled}
use Rattle.settling.specs.declared.Labels.{Labels}
use Rattle.std.specs.Prelude.{Option, Some, None}
use Rattle.std.proofs.lemmas.Bool.{cond_both}
use Rattle.rules.proofs.AndLaws.{and_true}
use Rattle.settling.specs.Labels.{none, length_of, arcs_of}
use Rattle.settling.specs.Trace.{fits, arc_fits, into_of, trace_of}
use Rattle.settling.proofs.TraceSteps.{fits-yes, arc_fits_lem, first_is, first_none, trace_on}
use Rattle.settling.specs.Seen.{seen}
use Rattle.settling.specs.Stage.{Stage}

fits_true : (l k w l' k' : ℕ) → fits l k w l' k' ≡ true → (l + w ≡ l') × (k + 1 ≡ k')
unfolding fits
fits_true l k w l' k' =
    cond_both (eqb (l + w) l') _ _ (λ (z : Bool). z ≡ true → (l + w ≡ l') × (k + 1 ≡ k'))
    (λ t e. (eqb-true (l + w) l' t, eqb-true (k + 1) k' e))
    (λ t e. absurd (false≢true e))

-- ---- The test on labels is that of the mathematics

module _ {R : Rows} {n m : ℕ} (sound : Sound n m R) (keep : ℕ → Bool) (L : Labels) (v e : ℕ) where
  tested : 1 ≤ e → e ≤ m → length_of L v < none → arc_fits R keep L v (e - 1) ≡ true → Fits (kept keep (laid m R)) (seen n L) v e
  unfolding arc_fits laid seen
  tested low high near t =
      let back : e - 1 + 1 ≡ e = omega arith in
      let u = at R.tails e in
      let a = and_true (eqb (at R.heads e) v) _ t in
      let b = and_true (keep (e - 1 + 1)) _ a.1 in
      let f = fits_true (length_of L u) (arcs_of L u) (at R.weights e) (length_of L v) (arcs_of L v) b.1 in
      let s = sound.arcs e low high in
      record {
        arc = ((low, high), ap keep (sym back) ∙ b.0);
        to = eqb-true _ v a.0;
        labelled = (s.tail_low, s.tail_high, omega arith);
        length = f.0;
        arcs = f.1;
      }

  tests : Fits (kept keep (laid m R)) (seen n L) v e → (1 ≤ e) × (e ≤ m) × (arc_fits R keep L v (e - 1) ≡ true)
  unfolding laid seen
  tests f =
      let low = f.arc.0.0 in
      let back : e - 1 + 1 ≡ e = omega arith in
      (low, f.arc.0.1, arc_fits_lem R keep L v (e - 1) f.to (ap keep back ∙ f.arc.1) (fits-yes _ _ _ _ _ f.length ∙ eq-eqb _ _ f.arcs))

-- ---- The arc into a node

-- e is found, and is the lowest-numbered that fits
record Found (R : Rows) (keep : ℕ → Bool) (n m : ℕ) (L : Labels) (v e : ℕ) : Type 0 where
  found : into_of R keep L v m ≡ Some e
  here : Fits (kept keep (laid m R)) (seen n L) v e
  lowest : (i : ℕ) → Fits (kept keep (laid m R)) (seen n L) v i → e ≤ i

module _ {R : Rows} {n m : ℕ} (sound : Sound n m R) (keep : ℕ → Bool) (L : Labels) (v : ℕ) (near : length_of L v < none) where
  looked : {x : ℕ} → Fits (kept keep (laid m R)) (seen n L) v x → (f : Option ℕ) → into_of R keep L v m ≡ f → (e : ℕ) × Found R keep n m L v e
  unfolding into_of
  looked {x} y None q =
      let z = tests sound keep L v x y in
      absurd (true≢false (sym z.2 ∙ first_none (arc_fits R keep L v) m 0 (x - 1) q (omega arith) (omega (arith, z.0, z.1))))
  looked y (Some e) q =
      let r = first_is (arc_fits R keep L v) m 0 e q in (
        e,
        record {
          found = q;
          here = tested sound keep L v e (omega arith) (omega arith) near r.passes;
          lowest = λ i f. let z = tests sound keep L v i f in omega (arith, z.0, r.lowest (i - 1) (omega arith) z.2);
        },
      )

-- ---- The row

-- a row that is written to at place k, seen from there on
stored : (row front : List ℕ) (k e : ℕ) → k < length row → front ++ drop k (set row k e) ≡ (front ++ e ∷ []) ++ drop (suc k) row
stored row front k e h =
    ap (λ (x : List ℕ). front ++ x) (drop-cons (set row k e) k 0 (simp length-set h) ∙ ap₂ (λ (a : ℕ) (l : List ℕ). a ∷ l) (get_or-set_same row k e 0 h) (drop-set-lt (suc k) row k e (omega arith)))
    ∙ sym (append_assoc front (e ∷ []) (drop (suc k) row))

-- the k arcs of the route to v, and the row that is traced from v
pub record Traced (R : Rows) (keep : ℕ → Bool) (m s : ℕ) (L : Labels) (k v : ℕ) (row : List ℕ) : Type 0 where
  pub arcs : List ℕ
  pub route : Route (kept keep (laid m R)) s v arcs
  pub count : length arcs ≡ k
  pub written : trace_of R keep m L k v row ≡ arcs ++ drop k row

module _ {R : Rows} {n m : ℕ} (sound : Sound n m R) {keep : ℕ → Bool} {s t c : ℕ} {L : Labels} (stage : Stage R keep n m s c L) (next : Next (seen n L) t) where
  -- one arc more, into a node v that is settled or is the target
  onward : {k v e : ℕ} {row : List ℕ} → (seen n L).Settled v ⊎ (v ≡ t) → k < length row → Found R keep n m L v e
      → Traced R keep m s L k (at R.tails e) (set row k e) → Traced R keep m s L (suc k) v row
  unfolding laid
  onward {k} {v} {e} {row} which h f r = record {
    arcs = r.arcs ++ e ∷ [];
    route = into e (fits_chosen stage.progress next which e f.here f.lowest) r.route;
    count = length-append r.arcs (e ∷ []) ∙ omega (arith, r.count);
    written = ap (λ (x : ℕ). trace_of R keep m L x v row) (sym (add-one k)) ∙ (trace_on R keep m L v row k e f.found ∙ (r.written ∙ stored row r.arcs k e h));
  }

  pub traced : (k v : ℕ) (row : List ℕ) → (seen n L).Settled v ⊎ (v ≡ t) → length_of L v < none → arcs_of L v ≡ k → k ≤ length row → Traced R keep m s L k v row
  unfolding trace_of seen laid
  traced zero v row which near a h = record {
    arcs = [];
    route = subst (λ (x : ℕ). Route (kept keep (laid m R)) s x []) (sym (traced_start stage.progress next which a)) start;
    count = refl;
    written = refl;
  }
  traced (suc k) v row which near a h = elim (some_fits stage.progress next which) [
    | inl z ↦ absurd (omega arith)
    | inr x ↦
        let y = looked sound keep L v near x.1 (into_of R keep L v m) refl in
        let f = y.1 in
        let d = fits_settled stage.progress next which y.0 f.here in
        let l = stage.progress.settled_labelled (at R.tails y.0) d in
        onward which h f (traced k (at R.tails y.0) (set row k y.0) (inl d) l.2 (omega (arith, f.here.arcs)) (simp length-set (omega arith)))
  ]
