use Rattle.std.proofs.Common.{◌&&◌, ◌≡◌, ◌∙◌, sym, leb}
use borrow.Author.Tests.{le-leb, lt-leb}
use Rattle.rules.proofs.JudgingLaws.{refusal_decides, rest_decides, nothing_follows}
use Rattle.dimacs.specs.Judgement.{announced, problem_judged}
use Rattle.dimacs.proofs.Judged.{handed_on, not_other}
use Rattle.dimacs.proofs.judge.judge_problem.Goals as goal
use Rattle.dimacs.proofs.judge.judge_problem.Goals.{then-rules-count, else-rules-count}

pub returns-in_err-passes : goal.returns-in_err-passes
unfolding problem_judged
returns-in_err-passes c =
    handed_on _ _ _ c.from_residual.ensures.1 c.in_err-passes.was
    ∙ refusal_decides _ (rw (not_other _ _ c.is_none.ensures) at c.passes.ensures) c.in_err-passes.was

pub returns-in_err-passes-2 : goal.returns-in_err-passes-2
unfolding problem_judged
returns-in_err-passes-2 c =
    handed_on _ _ _ c.from_residual-in_err-passes-2.ensures.1 c.in_err-passes-2.was
    ∙ rest_decides (rw (not_other _ _ c.is_none.ensures) at c.passes.ensures) c.in_ok-passes.was
    (refusal_decides _ (rw c.hold.ensures at c.passes-2.ensures) c.in_err-passes-2.was)

pub returns : goal.returns
unfolding problem_judged
returns c =
    let agree : c.if-rules-count.passes ≡ leb c.args.rules.fewest (announced c.args.rules c.args.ns) && leb (announced c.args.rules c.args.ns) c.args.rules.most =
    elim c.if-rules-count.branch [
      | then-rules-count w ↦ rw (← c.announced-count.ensures, le-leb _ _ w.if-rules-count.true) w.passes-is
      | else-rules-count w ↦ let few = lt-leb _ _ w.if-rules-count.false in rw (← c.announced-count.ensures, few) (w.passes-is ∙ few)
    ] in
    rest_decides (rw (not_other _ _ c.is_none.ensures) at c.passes.ensures) c.in_ok-passes.was
    (rest_decides (rw c.hold.ensures at c.passes-2.ensures) c.in_ok-passes-2.was (rw agree at c.passes-3.ensures ∙ sym (nothing_follows _)))
