-- `lending::rows::part_of` meets its contract.
use Rattle.lending.proofs.PartLaws.{part_is}
use Rattle.lending.proofs.rows.part_of.Goals as goal

pub returns : goal.returns
returns g c = part_is _ c.args.row c.stretch-a.ensures.value c.args.lent _ c.args.store.now c.places_of.ensures
