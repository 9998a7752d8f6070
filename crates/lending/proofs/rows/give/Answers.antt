-- `lending::rows::give` meets its contract.
use Rattle.std.proofs.Common.{refl}
use Rattle.lending.proofs.PartLaws.{part_put_is}
use Rattle.lending.proofs.rows.give.Goals as goal

pub returns : goal.returns
returns g c = rw c.copy_from_slice.ensures.after (part_put_is _ c.args.row c.stretch-a.ensures.value _ c.args.store.now c.args.values.now refl)
