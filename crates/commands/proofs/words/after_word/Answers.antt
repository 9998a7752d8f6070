-- `commands::words::after_word` meets its contract.
use Rattle.commands.proofs.WordLaws.{words_after}
use Rattle.commands.proofs.words.after_word.Goals as goal

pub returns-clause-words : goal.returns-clause-words
returns-clause-words c = rw c.after_first.ensures (words_after c.args.s.now)
