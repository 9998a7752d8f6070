-- Laws of the run, one for each branch: what a proof of the code cites.
use Prim.Native.Nat.{ℕ, ◌+◌}
use native.Mathlib.Numerals.{add-one}
use mathlib.Core.Bool.{Bool, true, false}
use mathlib.Core.Path.{◌≡◌, refl, ◌∙◌}
use borrow.Author.Tests.{eq-eqb, ne_eqb}
use Rattle.walks.specs.Rows.{Rows}
use Rattle.std.specs.Prelude.{Some, None}
use Rattle.settling.specs.declared.Labels.{Labels}
use Rattle.std.proofs.lemmas.Bool.{cond-true, cond-false}
use Rattle.settling.specs.Settle.{settle_of}
use Rattle.settling.specs.Nearest.{nearest_of}
use Rattle.settling.specs.Run.{after_pick, run_of}

module _ (R : Rows) (keep : ℕ → Bool) (n m t : ℕ) (done : ℕ) (L : Labels) where
  pub run_over : run_of R keep n m t 0 done L ≡ record { labels = L; count = done; found = false }
  unfolding run_of
  run_over = refl

  module _ (fuel : ℕ) where
    run_next : run_of R keep n m t (fuel + 1) done L ≡ after_pick R keep n m t done L (run_of R keep n m t fuel (done + 1)) (nearest_of L n)
    unfolding run_of
    run_next = rw (add-one fuel)

    pub run_stuck : nearest_of L n ≡ None → run_of R keep n m t (fuel + 1) done L ≡ record { labels = L; count = done; found = false }
    unfolding after_pick
    run_stuck e = run_next ∙ rw e

    pub run_found : (u : ℕ) → nearest_of L n ≡ Some u → u ≡ t
        → run_of R keep n m t (fuel + 1) done L ≡ record { labels = L; count = done + 1; found = true }
    unfolding after_pick
    run_found u e q = run_next ∙ rw e (cond-true _ _ _ (eq-eqb u t q))

    pub run_on : (u : ℕ) → nearest_of L n ≡ Some u → (u ≡ t → ⊥)
        → run_of R keep n m t (fuel + 1) done L ≡ run_of R keep n m t fuel (done + 1) (settle_of R keep m L u)
    unfolding after_pick
    run_on u e q = run_next ∙ rw e (cond-false _ _ _ (ne_eqb u t q))
