-- `copies::search_on` meets its contract.
use Rattle.desk.proofs.DeskLaws.{copied_back}
use Rattle.desk.proofs.RequestLaws.{routed_on}
use Rattle.copies.proofs.search_on.Goals as goal

pub returns : goal.returns
returns c =
    let d = c.args.desk.now in
    let back = copied_back _ c.fetch-k.new.to c.search.new.route c.fetch-k.ensures.count c.search.auto.route in
    rw (c.give.ensures, back)
    (routed_on d c.network.ensures.sizes c.network.ensures.rows c.numbers_of.ensures c.numbers_of-2.ensures c.numbers_of-3.ensures c.fetch-k.ensures.copied c.search.ensures)
