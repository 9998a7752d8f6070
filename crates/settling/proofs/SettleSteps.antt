-- Laws of settling, one for each branch: what a proof of the code cites.
use Prim.Native.Nat.{ℕ, ◌+◌}
use native.Mathlib.Numerals.{add-one}
use mathlib.Core.Bool.{Bool, true, false}
use mathlib.Core.Path.{◌≡◌, refl}
use lib.ListN.{get_or}
use borrow.Author.Tests.{eq-eqb, ne_eqb}
use Rattle.walks.specs.Rows.{Rows}
use Rattle.settling.specs.declared.Labels.{Labels}
use Rattle.std.proofs.lemmas.Bool.{cond-true, cond-false}
use Rattle.rules.proofs.AndLaws.{and_yes, and_no}
use Rattle.settling.specs.Labels.{length_of, arcs_of, offered, marked}
use Rattle.settling.specs.Settle.{arc_step, relaxed, settle_of}

module _ (R : Rows) (keep : ℕ → Bool) (u l k : ℕ) (L : Labels) where
  pub relaxed_none : relaxed R keep u l k L 0 ≡ L
  unfolding relaxed
  relaxed_none = refl

  pub relaxed_next : (j : ℕ) → relaxed R keep u l k L (j + 1) ≡ arc_step R keep u l k j (relaxed R keep u l k L j)
  unfolding relaxed
  relaxed_next j = rw add-one

  module _ (j : ℕ) where
    pub step_other : (get_or R.tails j 0 ≡ u → ⊥) → arc_step R keep u l k j L ≡ L
    unfolding arc_step
    step_other h = cond-false _ _ _ (and_no _ (ne_eqb _ u h))

    pub step_shut : get_or R.tails j 0 ≡ u → keep (j + 1) ≡ false → arc_step R keep u l k j L ≡ L
    unfolding arc_step
    step_shut h e = cond-false _ _ _ (and_yes (eq-eqb _ u h) e)

    pub step_open : get_or R.tails j 0 ≡ u → keep (j + 1) ≡ true
        → arc_step R keep u l k j L ≡ offered L (get_or R.heads j 0) (l + get_or R.weights j 0) (k + 1)
    unfolding arc_step
    step_open h e = cond-true _ _ _ (and_yes (eq-eqb _ u h) e)

-- the whole: all m arcs, from u's label and the labels with u marked
pub settle_all : (R : Rows) (keep : ℕ → Bool) (m : ℕ) (L : Labels) (u : ℕ)
    → settle_of R keep m L u ≡ relaxed R keep u (length_of L u) (arcs_of L u) (marked L u) m
unfolding settle_of
settle_all R keep m L u = refl
