-- `lending::rows::fetch` meets its contract.
use Rattle.std.proofs.Common.{sym, arith}
use lib.Seq.{length-take-le}
use Rattle.lending.proofs.PartLaws.{part_few}
use Rattle.lending.proofs.rows.fetch.Goals as goal

pub slice_bounds-copy_from_slice-end : goal.slice_bounds-copy_from_slice-end
slice_bounds-copy_from_slice-end g c = omega (arith, part_few _ _ _ _ c.part_of-values.ensures, c.requires.room)

pub slice_bounds-copy_from_slice-end-2 : goal.slice_bounds-copy_from_slice-end-2
slice_bounds-copy_from_slice-end-2 g c = sym (length-take-le _ c.args.to.now (omega (arith, part_few _ _ _ _ c.part_of-values.ensures, c.requires.room)))

pub copy_from_slice-requires : goal.copy_from_slice-requires
copy_from_slice-requires g c = length-take-le _ c.args.to.now (omega (arith, part_few _ _ _ _ c.part_of-values.ensures, c.requires.room))
