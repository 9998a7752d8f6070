-- `boxes::list` meets its contract.
use mathlib.Core.Path.{ap}
use native.Mathlib.Omega.{arith}
use Rattle.scan.specs.Ascii.{bytes}
use Rattle.walks.specs.Rows.{Rows}
use Rattle.boxes.specs.Prints.{graph, places, listed}
use Rattle.boxes.proofs.list.Goals as goal

pub put_listing-requires : goal.put_listing-requires
put_listing-requires c =
    let small = c.in-Ok.ensures.small in
    let long = c.network.ensures.long in
    let m = c.network.ensures.sizes.1 in
    (omega arith, omega arith, omega arith, omega arith, omega arith)

pub returns-in-Ok : goal.returns-in-Ok
returns-in-Ok c =
    let m = c.network.ensures.sizes.1 in
    let tails = ap (λ (R : Rows). R.tails) c.network.ensures.rows in
    let heads = ap (λ (R : Rows). R.heads) c.network.ensures.rows in
    let weights = ap (λ (R : Rows). R.weights) c.network.ensures.rows in
    let loads = rw (c.blank-plan.ensures, c.contents.ensures, c.contents-2.ensures) at c.in-Ok.ensures.loads in
    rw (c.put_listing.ensures, tails, heads, weights, m) (listed loads)

pub returns-in-Graph : goal.returns-in-Graph
unfolding bytes
returns-in-Graph c =
    let loads = rw (c.blank-plan.ensures, c.in-Graph.is, c.contents.ensures, c.contents-2.ensures) at c.in-Err.ensures.loads in
    rw c.put_trouble.ensures.text (graph loads)

pub returns-in-Places : goal.returns-in-Places
unfolding bytes
returns-in-Places c =
    let loads = rw (c.blank-plan.ensures, c.in-Places.is, c.contents.ensures, c.contents-2.ensures) at c.in-Err.ensures.loads in
    rw c.put_trouble-in-Places.ensures.text (places loads)
