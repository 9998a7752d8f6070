-- No two answers have the same number and values.
use mathlib.Core.Path.{◌≡◌, sym, ap}
use mathlib.Core.List.{[], ◌∷◌}
use Rattle.std.specs.Prelude.{Result, Ok, Err}
use Rattle.rules.specs.Paper.{Reply}
use Rattle.rules.specs.declared.Refusal.{Refusal}
use Rattle.rules.proofs.PaperLaws.{refusal_injective, refusal_nonzero}
use Rattle.daylist.specs.declared.Totals.{Totals}
use Rattle.daylist.specs.Paper.{paper}

pub paper_injective : (a b : Result Totals Refusal) → paper a ≡ paper b → a ≡ b
paper_injective (Ok T) (Ok U) e =
    let values : T.found ∷ T.none ∷ T.sum ∷ [] ≡ U.found ∷ U.none ∷ U.sum ∷ [] = ap (λ (x : Reply). x.values) e in
    let p : T.found ≡ U.found = cc in
    let q : T.none ≡ U.none = cc in
    let r : T.sum ≡ U.sum = cc in
    let same : T ≡ U = λ i. record { found = p i; none = q i; sum = r i } in
    ap Ok same
paper_injective (Ok T) (Err r) e = absurd (refusal_nonzero r (ap (λ (x : Reply). x.number) e))
paper_injective (Err r) (Ok T) e = absurd (refusal_nonzero r (ap (λ (x : Reply). x.number) (sym e)))
paper_injective (Err r) (Err r') e = ap Err (refusal_injective r r' e)
