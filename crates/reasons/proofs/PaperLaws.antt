-- No two answers have the same number and values.
use mathlib.Core.Path.{◌≡◌, refl, sym, ap, ◌∙◌}
use mathlib.Core.List.{◌∷◌}
use Rattle.std.specs.Prelude.{Result, Ok, Err}
use Rattle.rules.specs.Paper.{Reply, first_or_0}
use Rattle.rules.specs.declared.Refusal.{Refusal}
use Rattle.rules.proofs.PaperLaws.{refusal_injective, refusal_nonzero}
use Rattle.reasons.specs.declared.Reason.{Reason}
use Rattle.reasons.specs.declared.Reason.TheVariants.{Closed as closed, CutOff as cut_off, Longer as longer, Tied as tied, OnRoute as on_route}
use Rattle.reasons.specs.Reason.{number}
use Rattle.reasons.specs.Paper.{values, told, paper}
use Rattle.reasons.proofs.ReasonLaws.{value, same_reason}

first_value : (r : Reason) → first_or_0 (values r) ≡ value r
first_value closed = refl
first_value cut_off = refl
first_value (longer excess) = refl
first_value tied = refl
first_value on_route = refl

told_injective : (q r : Reason) → told q ≡ told r → q ≡ r
told_injective q r e =
    let all : number q ∷ values q ≡ number r ∷ values r = ap (λ (x : Reply). x.values) e in
    let p : number q ≡ number r = cc in
    let v : values q ≡ values r = cc in
    same_reason q r p (sym (first_value q) ∙ ap first_or_0 v ∙ first_value r)

pub paper_injective : (a b : Result Reason Refusal) → paper a ≡ paper b → a ≡ b
paper_injective (Ok q) (Ok r) e = ap Ok (told_injective q r e)
paper_injective (Ok q) (Err r) e = absurd (refusal_nonzero r (ap (λ (x : Reply). x.number) e))
paper_injective (Err r) (Ok q) e = absurd (refusal_nonzero r (ap (λ (x : Reply). x.number) (sym e)))
paper_injective (Err r) (Err r') e = ap Err (refusal_injective r r' e)
