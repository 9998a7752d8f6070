-- `judging::each::judge_each` meets its contract.
use Rattle.std.proofs.Common.{◌+◌, Err, sym, ap, ◌∙◌, arith}
use Rattle.rules.specs.Judging.{is_fine}
use Rattle.rules.proofs.JudgingLaws.{each_none, each_more, each_first, each_joined}
use Rattle.judging.proofs.each.judge_each.Goals as goal

pub loop-i-init : goal.loop-i-init
loop-i-init g c test refuse tests refuses = sym (ap is_fine (each_none test refuse))

pub loop-i-preserved : goal.loop-i-preserved
loop-i-preserved g c test refuse tests refuses =
    let i = c.loop-i.i in
    each_joined test refuse i (c.loop-i.invariant test refuse tests refuses) (tests i _ (omega arith) c.good-all.ensures)

pub loop-at-init : goal.loop-at-init
loop-at-init g c test refuse tests refuses = each_none test refuse

pub returns-then-not-good : goal.returns-then-not-good
returns-then-not-good g c test refuse tests refuses =
    let at = c.loop-at.at in
    let told = refuses (at + 1) _ c.refusal.ensures in
    let bad = sym (tests at _ (omega arith) c.good.ensures) ∙ c.if-not-good.true in
    ap Err told ∙ sym (each_first test refuse at c.args.count (c.loop-at.invariant test refuse tests refuses) bad (omega arith))

pub loop-at-preserved : goal.loop-at-preserved
loop-at-preserved g c test refuse tests refuses =
    let at = c.loop-at.at in
    each_more test refuse at (c.loop-at.invariant test refuse tests refuses) (sym (tests at _ (omega arith) c.good.ensures) ∙ c.if-not-good.false)
