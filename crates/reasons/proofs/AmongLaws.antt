-- The test for a list's numbers.
use mathlib.Core.Path.{◌≡◌, refl, sym, ◌∙◌}
use mathlib.Core.Bool.{true, false, ◌||◌, false≢true, true≢false}
use mathlib.Core.Logic.{inl, inr}
use mathlib.Core.List.{List, [], ◌∷◌}
use Prim.Native.Nat.{ℕ}
use borrow.Author.Tests.{eqb-true, eq-eqb}
use lib.Dec.{eqb}
use Rattle.reasons.specs.Using.{Among}
use Rattle.reasons.specs.Steps.{is_among}

module _ (v : ℕ) where
  pub yes_among : (us : List ℕ) → is_among v us ≡ true → Among v us
  unfolding is_among
  yes_among [] h = absurd (false≢true h)
  yes_among (u ∷ us) h = elim (eqb u v) as (λ b. eqb u v ≡ b → (b || is_among v us) ≡ true → Among v (u ∷ us)) [
    | true ↦ λ e _. inl (sym (eqb-true u v e))
    | false ↦ λ _ r. inr (yes_among us r)
  ] refl h

  pub no_among : (us : List ℕ) → is_among v us ≡ false → ¬ Among v us
  unfolding is_among
  no_among [] h x = x
  no_among (u ∷ us) h x = elim (eqb u v) as (λ b. eqb u v ≡ b → (b || is_among v us) ≡ false → ⊥) [
    | true ↦ λ _ r. true≢false r
    | false ↦ λ e r. elim x [ inl same ↦ false≢true (sym e ∙ eq-eqb u v (sym same)) | inr more ↦ no_among us r more ]
  ] refl h
