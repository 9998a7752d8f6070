-- The order of labels, and a label offered: a law for each branch.
use Prim.Native.Nat.{ℕ, ◌<◌, ◌≤◌}
use native.Mathlib.Omega.{arith}
use mathlib.Core.Bool.{Bool, true, false, false≢true}
use mathlib.Core.Path.{◌≡◌, sym, ◌∙◌}
use lib.Dec.{ltb, eqb}
use borrow.Author.Tests.{lt-ltb, le-ltb, eq-eqb, ne_eqb, ltb-true, ltb-false, eqb-true, eqb-false}
use Rattle.walks.specs.Order.{Less, NotAfter}
use Rattle.settling.specs.declared.Labels.{Labels}
use Rattle.std.proofs.lemmas.Bool.{cond-true, cond-false, cond_both}
use Rattle.settling.specs.Labels.{before, length_of, arcs_of, labelled, offered}

module _ (l k l' k' : ℕ) where
  pub before_less : l < l' → before l k l' k' ≡ true
  unfolding before
  before_less h = cond-true _ _ _ (lt-ltb l l' h)

  pub before_same : l' ≤ l → l ≡ l' → before l k l' k' ≡ ltb k k'
  unfolding before
  before_same h e = cond-false _ _ _ (le-ltb l l' h) ∙ cond-true _ _ _ (eq-eqb l l' e)

  pub before_more : l' ≤ l → (l ≡ l' → ⊥) → before l k l' k' ≡ false
  unfolding before
  before_more h e = cond-false _ _ _ (le-ltb l l' h) ∙ cond-false _ _ _ (ne_eqb l l' e)

  pub before_true : before l k l' k' ≡ true → Less l k l' k'
  unfolding before
  before_true =
      cond_both (ltb l l') _ _ (λ (t : Bool). t ≡ true → Less l k l' k')
      (λ t e. (omega (arith, ltb-true l l' t), λ q. absurd (omega (arith, ltb-true l l' t))))
      (λ t.
      cond_both (eqb l l') _ _ (λ (z : Bool). z ≡ true → Less l k l' k')
      (λ z e. (omega (arith, eqb-true l l' z), λ q. ltb-true k k' e))
      (λ z e. absurd (false≢true e)))

  pub before_false : before l k l' k' ≡ false → NotAfter l' k' l k
  unfolding before
  before_false =
      cond_both (ltb l l') _ _ (λ (t : Bool). t ≡ false → NotAfter l' k' l k)
      (λ t e. absurd (false≢true (sym e)))
      (λ t.
      cond_both (eqb l l') _ _ (λ (z : Bool). z ≡ false → NotAfter l' k' l k)
      (λ z e. (ltb-false l l' t, λ q. ltb-false k k' e))
      (λ z e. (ltb-false l l' t, λ q. absurd (eqb-false l l' z (sym q)))))

module _ (L : Labels) (v l k : ℕ) where
  pub offered-yes : before l k (length_of L v) (arcs_of L v) ≡ true → offered L v l k ≡ labelled L v l k
  unfolding offered
  offered-yes e = cond-true _ _ _ e

  pub offered_no : before l k (length_of L v) (arcs_of L v) ≡ false → offered L v l k ≡ L
  unfolding offered
  offered_no e = cond-false _ _ _ e
