-- `calls::network::search` meets its contract.
use Rattle.calls.specs.Calls.{sizes_of}
use Rattle.calls.proofs.CallLaws.{lent_alone, search_made}
use Rattle.calls.proofs.network.search.Goals as goal

pub returns : goal.returns
returns c =
    let lent = c.of_boxes.ensures in
    let says = rw (lent_alone c.of_boxes.result lent.places lent.boxes lent.no_masks) at c.search-answer.ensures in
    rw c.put_answer.ensures (search_made (sizes_of c.args.net) _ _ _ _ _ c.args.by_boxes c.search-answer.result says)
