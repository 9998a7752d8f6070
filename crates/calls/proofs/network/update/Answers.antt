-- `calls::network::update` meets its contract.
use Rattle.calls.specs.Calls.{Makes}
use Rattle.calls.proofs.network.update.Goals as goal

pub returns : goal.returns
returns c = λ route. rw c.put_judged.ensures.text (Makes.update _ c.update-updated.ensures)
