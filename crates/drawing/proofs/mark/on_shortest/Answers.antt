-- `drawing::mark::on_shortest` meets its contract.
use borrow.Author.Rules.{rules}
use Rattle.settling.specs.LengthsTo.{on_shortest}
use Rattle.drawing.proofs.mark.on_shortest.Goals as goal

pub returns : goal.returns
unfolding on_shortest
returns c = search rules
