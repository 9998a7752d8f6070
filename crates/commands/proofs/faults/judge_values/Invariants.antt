-- `commands::faults::judge_values` meets its contract.
use Rattle.std.proofs.Common.{◌≡◌}
use Rattle.scan.specs.Left.{pieces_left}
use Rattle.commands.specs.Words.{words_of}
use Rattle.commands.specs.Commands.{values_judged}
use Rattle.commands.proofs.faults.judge_values.Given as goal

abbrev pub invariant-loop-word : goal.invariant-loop-word
invariant-loop-word l = values_judged l.kind (words_of l.words) ≡ values_judged l.kind (pieces_left l.word-iterator)
