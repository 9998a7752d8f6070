-- The next byte is the first that is ahead, or that is read.
use Rattle.std.proofs.Common.{inr, arith}
use Rattle.hearing.specs.Hearing.{ahead_of}
use Rattle.hearing.proofs.HearingLaws.{none_ahead, just_read}
use Rattle.hearing.proofs.input.Input.next.Goals as goal

pub returns-then-self-eq0 : goal.returns-then-self-eq0
unfolding ahead_of
returns-then-self-eq0 g c = (none_ahead _ _ _ c.if-self.false, none_ahead _ _ _ (omega arith))

pub returns-else-self-eq0 : goal.returns-else-self-eq0
unfolding ahead_of
returns-else-self-eq0 g c =
    let t = c.take-else-self-eq0.ensures in
    inr (none_ahead _ _ _ c.if-self.false, just_read _ _ t.kept.0 t.kept.1 t.taken)
