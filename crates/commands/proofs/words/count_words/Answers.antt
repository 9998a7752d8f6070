-- `commands::words::count_words` meets its contract.
use Rattle.std.proofs.Common.{◌≡◌, length, ap, arith, inl}
use Rattle.scan.specs.Left.{pieces_left}
use Rattle.commands.specs.Words.{words_of}
use Rattle.commands.proofs.WordLaws.{words_few}
use Rattle.commands.proofs.words.count_words.Goals as goal

pub count-requires-clause-fits : goal.count-requires-clause-fits
count-requires-clause-fits c =
    let few = words_few c.args.s.now in
    let same : length (pieces_left c.words_of.result) ≡ length (words_of c.args.s.now) = ap length c.words_of.ensures in
    inl (omega arith)
