-- `copies::update_on` meets its contract.
use Rattle.std.proofs.Common.{◌≤◌, length, arith}
use Rattle.commands.specs.Rows.{places_of}
use Rattle.commands.specs.declared.rows.Row.TheVariants.{Weights, Route}
use Rattle.lending.specs.Stores.{row}
use Rattle.lending.proofs.PartLaws.{part_few}
use Rattle.desk.proofs.DeskLaws.{copied_back}
use Rattle.desk.proofs.RequestLaws.{changed_as}
use Rattle.copies.proofs.update_on.Goals as goal

pub returns : goal.returns
returns c =
    let d = c.args.desk.now in
    let left = c.update.new in
    let weights = copied_back _ c.fetch-w.new.to left.weights c.fetch-w.ensures.count c.update.auto.weights in
    let closures = copied_back _ c.fetch-c.new.to left.closures c.fetch-c.ensures.count c.update.auto.closures in
    let boxes = copied_back _ c.fetch-b.new.to left.boxes c.fetch-b.ensures.count c.update.auto.boxes in
    let few = part_few d.lent Weights d.counts _ c.fetch-w.ensures.copied in
    let made =
    rw (c.counts_of.ensures, c.counts_of-2.ensures, c.fetch-w.ensures.copied, c.fetch-c.ensures.copied, c.numbers_of.ensures, c.numbers_of-2.ensures, c.fetch-b.ensures.copied)
    at (c.update.ensures (row Route d)) in
    rw (c.give.ensures, c.give-2.ensures, c.give-3.ensures, weights, closures, boxes) (changed_as d made (omega (arith, few, c.update.auto.weights)))
