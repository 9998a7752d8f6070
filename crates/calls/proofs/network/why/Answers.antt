-- `calls::network::why` meets its contract.
use Rattle.calls.specs.Calls.{Makes}
use Rattle.calls.proofs.network.why.Goals as goal

pub returns : goal.returns
returns c = λ g e. let says = rw (← e) at c.why-reason.ensures in rw c.put_reason.ensures.text (Makes.why c.why-reason.result says)
