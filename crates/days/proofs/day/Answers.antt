-- `days::day` meets its contract.
use Rattle.desk.proofs.DeskLaws.{copied_back}
use Rattle.desk.proofs.RequestLaws.{day_on}
use Rattle.days.proofs.day.Goals as goal

pub returns-clause-reads : goal.returns-clause-reads
returns-clause-reads c =
    let d = c.args.desk.now in
    let back = copied_back _ c.fetch-k.new.to c.run_day.new.answers c.fetch-k.ensures.count c.run_day.auto.answers in
    rw (c.give.ensures, back)
    (day_on d c.network.ensures.sizes c.network.ensures.rows c.numbers_of.ensures c.numbers_of-2.ensures c.numbers_of-3.ensures c.fetch-k.ensures.copied c.run_day.ensures.runs)
