-- So much of the line was heard, and what is ahead stands in the chunk.
use Rattle.hearing.specs.Hearing.{ahead_of}
use Rattle.hearing.proofs.HearingLaws.{Hearing}
use Rattle.hearing.proofs.input.Input.read_line.Given as goal

abbrev pub invariant-loop-turn : goal.invariant-loop-turn
invariant-loop-turn g l = Hearing (ahead_of l.initial.self) l.initial.line l.line (ahead_of l.self) l.length l.turn
