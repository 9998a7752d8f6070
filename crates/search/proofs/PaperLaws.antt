-- No two answers have the same number and values.
use mathlib.Core.Path.{◌≡◌, sym, ap}
use mathlib.Core.List.{[], ◌∷◌}
use Rattle.std.specs.Prelude.{Result, Ok, Err}
use Rattle.rules.specs.Paper.{Reply}
use Rattle.rules.specs.declared.Refusal.{Refusal}
use Rattle.rules.proofs.PaperLaws.{refusal_injective, refusal_nonzero}
use Rattle.search.specs.declared.Found.{Found}
use Rattle.search.specs.Paper.{paper}

pub paper_injective : (a b : Result Found Refusal) → paper a ≡ paper b → a ≡ b
paper_injective (Ok f) (Ok g) e =
    let values : f.length ∷ f.arcs ∷ f.settled ∷ [] ≡ g.length ∷ g.arcs ∷ g.settled ∷ [] = ap (λ (x : Reply). x.values) e in
    let p : f.length ≡ g.length = cc in
    let q : f.arcs ≡ g.arcs = cc in
    let r : f.settled ≡ g.settled = cc in
    let same : f ≡ g = λ i. record { length = p i; arcs = q i; settled = r i } in
    ap Ok same
paper_injective (Ok f) (Err r) e = absurd (refusal_nonzero r (ap (λ (x : Reply). x.number) e))
paper_injective (Err r) (Ok f) e = absurd (refusal_nonzero r (ap (λ (x : Reply). x.number) (sym e)))
paper_injective (Err r) (Err r') e = ap Err (refusal_injective r r' e)
