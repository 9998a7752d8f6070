-- `plans::reading::places` meets its contract.
use Rattle.desk.proofs.DeskLaws.{copied_back}
use Rattle.desk.proofs.RequestLaws.{places_on}
use Rattle.plans.proofs.reading.places.Goals as goal

pub returns-clause-reads : goal.returns-clause-reads
returns-clause-reads c =
    let d = c.args.desk.now in
    let left = c.read_places.new in
    let x = copied_back _ c.fetch-a.new.to left.x c.fetch-a.ensures.count c.read_places.auto.x in
    let y = copied_back _ c.fetch-b.new.to left.y c.fetch-b.ensures.count c.read_places.auto.y in
    rw (c.give-2.ensures, c.give.ensures, x, y) (places_on d c.fetch-a.ensures.copied c.fetch-b.ensures.copied c.read_places.ensures.reads)
