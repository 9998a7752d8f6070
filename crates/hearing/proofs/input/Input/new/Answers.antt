-- `hearing::Input::new` meets its contract.
use Rattle.std.proofs.Common.{arith}
use Rattle.hearing.specs.Hearing.{ahead_of}
use Rattle.hearing.proofs.HearingLaws.{none_ahead}
use Rattle.hearing.proofs.input.Input.new.Goals as goal

pub returns : goal.returns
unfolding ahead_of
returns c = none_ahead _ 0 0 (omega arith)
