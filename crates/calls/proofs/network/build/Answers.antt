-- `calls::network::build` meets its contract.
use Rattle.calls.specs.Calls.{Makes}
use Rattle.calls.proofs.network.build.Goals as goal

pub returns : goal.returns
returns c = λ route. rw c.put_judged.ensures.text (Makes.build _ c.build_boxes-built.ensures)
