-- `journeys::day::list_day` meets its contract.
use Rattle.scan.specs.Ascii.{bytes}
use Rattle.journeys.proofs.DayLaws.{ran_prints, trouble_prints}
use Rattle.journeys.proofs.day.list_day.Goals as goal

pub returns-in-Ok : goal.returns-in-Ok
returns-in-Ok c = rw (c.put_totals.ensures.puts, c.put_journeys.ensures.listed) (ran_prints (rw c.contents.ensures at c.in-Ok.ensures.runs))

pub returns-in-Err : goal.returns-in-Err
unfolding bytes
returns-in-Err c = rw c.put_trouble.ensures.text (trouble_prints (rw c.contents.ensures at c.in-Err.ensures.runs))
