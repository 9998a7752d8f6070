use Rattle.std.proofs.Common.{◌∙◌, sym}
use Rattle.rules.proofs.JudgingLaws.{refusal_decides, rest_decides, nothing_follows, passed}
use Rattle.dimacs.specs.Judgement.{data_judged}
use Rattle.dimacs.proofs.Fairness.{once_in}
use Rattle.dimacs.proofs.Judged.{handed_on}
use Rattle.dimacs.proofs.judge.judge_data.Goals as goal

pub returns-in_err-passes : goal.returns-in_err-passes
unfolding data_judged
returns-in_err-passes c =
    handed_on _ _ _ c.from_residual.ensures.1 c.in_err-passes.was
    ∙ refusal_decides _ (rw c.is_some.ensures at c.passes.ensures) c.in_err-passes.was

pub returns-in_err-passes-2 : goal.returns-in_err-passes-2
unfolding data_judged
returns-in_err-passes-2 c =
    handed_on _ _ _ c.from_residual-in_err-passes-2.ensures.1 c.in_err-passes-2.was
    ∙ rest_decides (rw c.is_some.ensures at c.passes.ensures) c.in_ok-passes.was
    (refusal_decides _ (rw c.hold.ensures at c.passes-2.ensures) c.in_err-passes-2.was)

pub is_again-requires : goal.is_again-requires
is_again-requires c = λ e. once_in _ _ c.requires (passed _ _ (sym (rw c.hold.ensures at c.passes-2.ensures) ∙ c.in_ok-passes-2.was)) e

pub returns-in_err-passes-3 : goal.returns-in_err-passes-3
unfolding data_judged
returns-in_err-passes-3 c =
    handed_on _ _ _ c.from_residual-in_err-passes-3.ensures.1 c.in_err-passes-3.was
    ∙ rest_decides (rw c.is_some.ensures at c.passes.ensures) c.in_ok-passes.was
    (rest_decides (rw c.hold.ensures at c.passes-2.ensures) c.in_ok-passes-2.was
    (refusal_decides _ (rw c.is_again.ensures at c.passes-3.ensures) c.in_err-passes-3.was))

pub returns : goal.returns
unfolding data_judged
returns c =
    rest_decides (rw c.is_some.ensures at c.passes.ensures) c.in_ok-passes.was
    (rest_decides (rw c.hold.ensures at c.passes-2.ensures) c.in_ok-passes-2.was
    (rest_decides (rw c.is_again.ensures at c.passes-3.ensures) c.in_ok-passes-3.was
    ((rw (c.announced.ensures, c.numbers.ensures) at c.passes-4.ensures) ∙ sym (nothing_follows _))))
