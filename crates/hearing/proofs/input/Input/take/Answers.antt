-- What is ahead begins with the byte that is taken.
use Rattle.hearing.specs.Hearing.{ahead_of}
use Rattle.hearing.proofs.HearingLaws.{next_ahead}
use Rattle.hearing.proofs.input.Input.take.Goals as goal

pub returns-clause-taken : goal.returns-clause-taken
unfolding ahead_of
returns-clause-taken c = next_ahead _ _ _ c.requires
