-- Laws of the trace, one for each branch: what a proof of the code cites.
use Prim.Native.Nat.{ℕ, zero, suc, ◌+◌, ◌-◌, ◌<◌, ◌≤◌}
use native.Mathlib.Omega.{arith}
use native.Mathlib.Numerals.{add-one}
use native.Mathlib.Decide.{ℕ_discrete}
use mathlib.Core.Bool.{Bool, true, false, cond, true≢false}
use mathlib.Core.Path.{◌≡◌, refl, sym, ap, ◌∙◌}
use mathlib.Core.List.{List}
use lib.ListN.{get_or, set}
use lib.Dec.{eqb}
use borrow.Author.Tests.{eq-eqb, ne_eqb}
use Rattle.walks.specs.Rows.{Rows, at}
use Rattle.settling.specs.declared.Labels.{Labels}
use Rattle.std.specs.Prelude.{Option, Some, None}
use Rattle.std.proofs.lemmas.Bool.{cond-true, cond-false, cond_both}
use Rattle.rules.proofs.AndLaws.{and_yes, and_no}
use Rattle.settling.specs.Labels.{length_of, arcs_of}
use Rattle.settling.specs.Trace.{fits, first_of, arc_fits, into_of, after_into, trace_of}

-- ---- A step from label to label

module _ (l k w l' k' : ℕ) where
  pub fits-yes : l + w ≡ l' → fits l k w l' k' ≡ eqb (k + 1) k'
  unfolding fits
  fits-yes e = cond-true _ _ _ (eq-eqb _ _ e)

  pub fits_no : (l + w ≡ l' → ⊥) → fits l k w l' k' ≡ false
  unfolding fits
  fits_no e = cond-false _ _ _ (ne_eqb _ _ e)

-- ---- A loop that looks for the first: the look from j on is the whole look. How a turn keeps that, or ends it.

module _ (test : ℕ → Bool) (f j : ℕ) where
  first_next : first_of test (f + 1) j ≡ cond (test j) (Some (j + 1)) (first_of test f (j + 1))
  unfolding first_of
  first_next = rw (add-one f)

module _ (test : ℕ → Bool) (m : ℕ) (whole : Option ℕ) where
  abbrev pub Rest : ℕ → Type 0
  Rest j = (f : ℕ) → f + j ≡ m → first_of test f j ≡ whole

  module _ (j : ℕ) (rest : Rest j) where
    pub hit : j < m → test j ≡ true → Some (j + 1) ≡ whole
    hit h e = let f = m - (j + 1) in sym (first_next test f j ∙ cond-true _ _ _ e) ∙ rest (f + 1) (omega arith)

    pub miss : test j ≡ false → Rest (j + 1)
    miss e f h = sym (first_next test f j ∙ cond-false _ _ _ e) ∙ rest (f + 1) (omega arith)

    pub over : j ≤ m → m ≤ j → None ≡ whole
    unfolding first_of
    over h h' = rest 0 (omega arith)

-- ---- The arc into a node

module _ (R : Rows) (keep : ℕ → Bool) (L : Labels) (v : ℕ) where
  -- the look at the start is the whole look
  pub into_whole : (m : ℕ) → Rest (arc_fits R keep L v) m (into_of R keep L v m) 0
  unfolding into_of
  into_whole m f h = let e : f ≡ m = omega arith in rw e

  module _ (j : ℕ) where
    pub arc_other : (get_or R.heads j 0 ≡ v → ⊥) → arc_fits R keep L v j ≡ false
    unfolding arc_fits
    arc_other h = and_no _ (ne_eqb _ v h)

    pub arc_shut : get_or R.heads j 0 ≡ v → keep (j + 1) ≡ false → arc_fits R keep L v j ≡ false
    unfolding arc_fits
    arc_shut h e = and_yes (eq-eqb _ v h) (and_no _ e)

    pub arc_fits_lem : {r : Bool} → get_or R.heads j 0 ≡ v → keep (j + 1) ≡ true
        → fits (length_of L (get_or R.tails j 0)) (arcs_of L (get_or R.tails j 0)) (get_or R.weights j 0) (length_of L v) (arcs_of L v) ≡ r
        → arc_fits R keep L v j ≡ r
    unfolding arc_fits
    arc_fits_lem h e f = and_yes (eq-eqb _ v h) (and_yes e f)

-- e - 1 is the first of f places from j on that passes a test
pub record First (test : ℕ → Bool) (f j e : ℕ) : Type 0 where
  pub low : j < e
  pub high : e ≤ j + f
  pub passes : test (e - 1) ≡ true
  pub lowest : (i : ℕ) → j ≤ i → test i ≡ true → e ≤ i + 1

pub first_is : (test : ℕ → Bool) (f j e : ℕ) → first_of test f j ≡ Some e → First test f j e
unfolding first_of
first_is test zero j e = λ q. let z : ◌≡◌ {A = ℕ} 0 1 = cc in absurd (omega arith)
first_is test (suc f) j e =
    cond_both (test j) (Some (j + 1)) (first_of test f (j + 1)) (λ (x : Option ℕ). x ≡ Some e → First test (suc f) j e)
    (λ t q.
    let z : j + 1 ≡ e = cc in
    let y : e - 1 ≡ j = omega arith in
    record { low = omega arith; high = omega arith; passes = rw y t; lowest = λ i h p. omega arith })
    (λ t q.
    let r = first_is test f (j + 1) e q in
    record {
      low = omega arith;
      high = omega arith;
      passes = r.passes;
      lowest = λ i h p. elim (ℕ_discrete i j) [
        | yes same ↦ absurd (true≢false (sym p ∙ (ap test same ∙ t)))
        | no other ↦ r.lowest i (omega arith) p
      ];
    })

-- where none is found, every place fails
pub first_none : (test : ℕ → Bool) (f j i : ℕ) → first_of test f j ≡ None → j ≤ i → i < j + f → test i ≡ false
unfolding first_of
first_none test zero j i = λ q h h'. absurd (omega arith)
first_none test (suc f) j i =
    cond_both (test j) (Some (j + 1)) (first_of test f (j + 1)) (λ (x : Option ℕ). x ≡ None → j ≤ i → i < j + suc f → test i ≡ false)
    (λ t q h h'. let z : ◌≡◌ {A = ℕ} 0 1 = cc in absurd (omega arith))
    (λ t q h h'. elim (ℕ_discrete i j) [
      | yes same ↦ ap test same ∙ t
      | no other ↦ first_none test f (j + 1) i q (omega arith) (omega arith)
    ])

-- ---- The trace

module _ (R : Rows) (keep : ℕ → Bool) (m : ℕ) (L : Labels) (v : ℕ) (row : List ℕ) where
  pub trace_over : trace_of R keep m L 0 v row ≡ row
  unfolding trace_of
  trace_over = refl

  module _ (k : ℕ) where
    trace_next : trace_of R keep m L (k + 1) v row ≡ after_into R keep m L (trace_of R keep m L k) k row (into_of R keep L v m)
    unfolding trace_of
    trace_next = rw (add-one k)

    pub trace_stuck : into_of R keep L v m ≡ None → trace_of R keep m L (k + 1) v row ≡ row
    unfolding after_into
    trace_stuck e = trace_next ∙ rw e

    pub trace_on : (e : ℕ) → into_of R keep L v m ≡ Some e
        → trace_of R keep m L (k + 1) v row ≡ trace_of R keep m L k (at R.tails e) (set row k e)
    unfolding after_into
    trace_on e q = trace_next ∙ rw q
