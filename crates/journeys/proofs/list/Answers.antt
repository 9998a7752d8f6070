-- `journeys::list` meets its contract.
use Rattle.scan.specs.Ascii.{bytes}
use Rattle.journeys.specs.Prints.{graph, places, listed}
use Rattle.journeys.proofs.list.Goals as goal

pub returns-in-Ok : goal.returns-in-Ok
returns-in-Ok c = listed (rw (c.blank-plan.ensures, c.contents.ensures, c.contents-2.ensures) at c.in-Ok.ensures.loads) c.list_day.ensures

pub returns-in-Graph : goal.returns-in-Graph
unfolding bytes
returns-in-Graph c =
    let loads = rw (c.blank-plan.ensures, c.in-Graph.is, c.contents.ensures, c.contents-2.ensures) at c.in-Err.ensures.loads in
    rw c.put_trouble.ensures.text (graph loads)

pub returns-in-Places : goal.returns-in-Places
unfolding bytes
returns-in-Places c =
    let loads = rw (c.blank-plan.ensures, c.in-Places.is, c.contents.ensures, c.contents-2.ensures) at c.in-Err.ensures.loads in
    rw c.put_trouble-in-Places.ensures.text (places loads)
