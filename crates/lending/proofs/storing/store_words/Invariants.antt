-- `lending::storing::store_words` meets its contract.
use Rattle.std.specs.Iterator.Adapters.{enumerate_source, enumerate_count}
use Rattle.scan.specs.Left.{pieces_left}
use Rattle.commands.specs.Words.{words_of}
use Rattle.lending.proofs.StoreLaws.{Storing}
use Rattle.lending.proofs.storing.store_words.Given as goal

abbrev pub invariant-loop-k : goal.invariant-loop-k
invariant-loop-k g l = Storing g.T.Spelt.kind g.T.Spelt.value (words_of l.words) (pieces_left (enumerate_source l.k-iterator)) l.initial.store l.store l.start (enumerate_count l.k-iterator)
