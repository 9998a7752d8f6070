use Rattle.std.proofs.Common.{◌&&◌, ◌≡◌, ◌∙◌, eqb}
use Rattle.dimacs.specs.Judgement.{is_seen, numbers_of, announced, ended}
use Rattle.dimacs.proofs.judge.judge_end.Goals as goal
use Rattle.dimacs.proofs.judge.judge_end.Goals.{then-is_some, else-is_some}

pub returns : goal.returns
unfolding ended
returns c =
    let complete : c.if-is_some.passes ≡ is_seen c.args.head && eqb c.args.head.count (announced c.args.rules (numbers_of c.args.head)) =
    elim c.if-is_some.branch [
      | then-is_some w ↦ rw (← c.is_some.ensures, w.if-is_some.true) (rw (w.announced.ensures, w.numbers.ensures) at w.passes-is)
      | else-is_some w ↦ rw (← c.is_some.ensures, w.if-is_some.false) (w.passes-is ∙ w.if-is_some.false)
    ] in
    rw complete at c.passes.ensures
