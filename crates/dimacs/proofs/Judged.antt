-- Laws of judgements that a `?` hands on.
use mathlib.Core.Path.{◌≡◌, sym, ap, ◌∙◌}
use mathlib.Core.Bool.{Bool, true, false, not}
use Rattle.std.specs.Prelude.{Err}
use Rattle.std.specs.Result.{IsErrAnd}
use Rattle.std.proofs.lemmas.Result.{err_from_is_err_and}
use Rattle.rules.specs.Judging.{Judged}
use Rattle.rules.specs.declared.Refusal.{Refusal}

-- what is returned is what was judged
pub handed_on : (r j : Judged) (x : Refusal) → IsErrAnd r (λ y. y ≡ x) → j ≡ Err x → r ≡ j
handed_on r j x h e = let p = err_from_is_err_and r h in p.1 ∙ (ap Err p.2 ∙ sym e)

pub not_other : (a b : Bool) → a ≡ not b → b ≡ not a
not_other a true e = rw e
not_other a false e = rw e
