-- No two answers of the panel have the same number and values.
use mathlib.Core.Path.{◌≡◌, sym, ap}
use mathlib.Core.List.{[], ◌∷◌}
use Rattle.std.specs.Prelude.{ℕ, Result, Ok, Err}
use Rattle.rules.specs.Paper.{Reply}
use Rattle.rules.specs.declared.Refusal.{Refusal}
use Rattle.rules.proofs.PaperLaws.{refusal_injective, refusal_nonzero}
use Rattle.masks.specs.Paper.{paper}

pub paper_injective : (a b : Result ℕ Refusal) → paper a ≡ paper b → a ≡ b
paper_injective (Ok c) (Ok c') e =
    let values : c ∷ [] ≡ c' ∷ [] = ap (λ (x : Reply). x.values) e in
    let p : c ≡ c' = cc in
    rw p
paper_injective (Ok c) (Err r) e = absurd (refusal_nonzero r (ap (λ (x : Reply). x.number) e))
paper_injective (Err r) (Ok c) e = absurd (refusal_nonzero r (ap (λ (x : Reply). x.number) (sym e)))
paper_injective (Err r) (Err r') e = ap Err (refusal_injective r r' e)
