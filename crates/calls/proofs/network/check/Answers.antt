-- `calls::network::check` meets its contract.
use Rattle.calls.specs.Calls.{Makes}
use Rattle.calls.proofs.CallLaws.{lent_alone}
use Rattle.calls.proofs.network.check.Goals as goal

pub returns : goal.returns
returns c =
    let lent = c.of_boxes.ensures in
    let says = rw (lent_alone c.of_boxes.result lent.places lent.boxes lent.no_masks) at c.check-checked.ensures in
    λ route. rw c.put_judged.ensures.text (Makes.check c.check-checked.result says)
