-- `boxwork::judge_misses` meets its contract.
use Rattle.passing.specs.Lent.{signs_of}
use Rattle.boxwork.specs.Missing.{nowhere, first}
use Rattle.boxwork.proofs.Meaning.{missed_first, missed_none}
use Rattle.boxwork.proofs.Parts.{nothing-asked}
use Rattle.boxwork.proofs.judge_misses.Goals as goal

pub returns-then-not-asked : goal.returns-then-not-asked
returns-then-not-asked c = nothing-asked c.if-not-asked.true

pub returns-in-None : goal.returns-in-None
returns-in-None c = nowhere (missed_none c.args.tracks.sound c.args.asked (signs_of c.args.signs) c.requires.0.numbers c.in-None.ensures)

pub returns-in-Some : goal.returns-in-Some
returns-in-Some c = first (missed_first c.args.tracks.sound c.args.asked (signs_of c.args.signs) c.requires.0.numbers c.in-Some.ensures)
