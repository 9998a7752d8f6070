-- `commands::faults::judge_values` meets its contract.
use Rattle.std.proofs.Common.{rules, ◌≡◌, ◌∷◌, [], List, ℕ, Ok}
use Rattle.commands.specs.Commands.{Judged, value_judged, values_judged, on_ok}
use Rattle.commands.specs.declared.rows.Kind.{Kind}
use Rattle.commands.proofs.faults.judge_values.Goals as goal

-- r is what was judged of the first of the words
first_judged : (kind : Kind) (ws more : List (List ℕ)) (w : List ℕ) (r : Judged) → ws ≡ w ∷ more → r ≡ value_judged kind w → values_judged kind ws ≡ on_ok r (λ _. values_judged kind more)
unfolding values_judged
first_judged kind ws more w r p q = rw (p, q)

none_judged : (kind : Kind) (ws : List (List ℕ)) → ws ≡ [] → values_judged kind ws ≡ Ok tt
unfolding values_judged
none_judged kind ws p = rw p

pub loop-word-preserved : goal.loop-word-preserved
loop-word-preserved c = let turn = first_judged c.args.kind _ _ _ _ c.in-Some.ensures.steps c.judge_value.ensures in search rules

pub returns-in_err-judge_value : goal.returns-in_err-judge_value
returns-in_err-judge_value c = let turn = first_judged c.args.kind _ _ _ _ c.in-Some.ensures.steps c.judge_value.ensures in search rules

pub returns : goal.returns
returns c = let none = none_judged c.args.kind _ c.in-None.ensures.steps.0 in search rules
