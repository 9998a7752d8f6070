-- `plans::written::write_rows` meets its contract.
use Rattle.std.proofs.Common.{refl, []}
use Rattle.lending.specs.declared.Desk.{Desk}
use Rattle.desk.proofs.RequestLaws.{rows_written}
use Rattle.plans.proofs.written.write_rows.Goals as goal

pub returns : goal.returns
returns c =
    let a = c.args in
    let d : Desk = record { sizes = a.sizes; lent = a.lent; counts = a.counts.now; numbers = a.numbers.now; bytes = [] } in
    rows_written d a.format refl c.part_of.ensures c.part_of-2.ensures c.part_of-3.ensures c.part_of-x.ensures c.part_of-y.ensures c.write_text.ensures
