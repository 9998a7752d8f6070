-- `copies::call_on` meets its contract.
use Rattle.std.proofs.Common.{sym}
use Rattle.commands.specs.declared.rows.Row.TheVariants.{Route}
use Rattle.lending.specs.Stores.{row}
use Rattle.desk.specs.Desk.{lent_rows}
use Rattle.desk.proofs.RequestLaws.{left_as, checked_on}
use Rattle.copies.proofs.call_on.Goals as goal

pub returns-in-Check : goal.returns-in-Check
returns-in-Check c =
    let d = c.args.desk.now in
    rw c.in-Check.is
    (checked_on d c.network.ensures.sizes c.network.ensures.rows c.numbers_of.ensures c.numbers_of-in-Check.ensures c.numbers_of-in-Check-2.ensures (c.check.ensures (row Route d)))

pub returns-in-Why : goal.returns-in-Why
returns-in-Why c =
    let d = c.args.desk.now in
    let made = rw c.network-in-Why.ensures.sizes at (c.why.ensures (lent_rows d) (sym c.network-in-Why.ensures.rows)) in
    rw c.in-Why.is (left_as d made)
