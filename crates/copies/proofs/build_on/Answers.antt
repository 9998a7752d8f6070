-- `copies::build_on` meets its contract.
use Rattle.commands.specs.declared.rows.Row.TheVariants.{Route}
use Rattle.lending.specs.Stores.{row}
use Rattle.desk.proofs.DeskLaws.{copied_back}
use Rattle.desk.proofs.RequestLaws.{drew_on}
use Rattle.copies.proofs.build_on.Goals as goal

pub returns : goal.returns
returns c =
    let d = c.args.desk.now in
    let back = copied_back _ c.fetch-b.new.to c.build.new.boxes c.fetch-b.ensures.count c.build.auto.boxes in
    rw (c.give.ensures, back)
    (drew_on d c.network.ensures.sizes c.network.ensures.rows c.numbers_of.ensures c.numbers_of-2.ensures c.fetch-b.ensures.copied (c.build.ensures (row Route d)))
