-- A line is heard byte by byte.
use Rattle.hearing.proofs.HearingLaws.{hearing_none, heard_over, heard_whole, hear_more}
use Rattle.hearing.proofs.input.Input.read_line.Goals as goal

pub loop-turn-init : goal.loop-turn-init
loop-turn-init g c = hearing_none _ _

pub returns-then-ends : goal.returns-then-ends
returns-then-ends g c = heard_whole _ _ _ _ _ _ c.loop-turn.invariant _ _ c.in-Some.ensures c.if-ends.true

pub loop-turn-preserved : goal.loop-turn-preserved
loop-turn-preserved g c =
    rw c.hear-length.ensures.1
    (hear_more _ _ _ _ _ _ c.loop-turn.invariant _ _ c.in-Some.ensures _ c.if-ends.false c.hear-length.ensures.0)

pub returns-in_default : goal.returns-in_default
returns-in_default g c = let over = c.in_default.ensures in heard_over _ _ _ _ _ _ c.loop-turn.invariant over.0 over.1
