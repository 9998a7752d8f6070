-- `daylist::asking::ask` meets its contract: what the run tells is the query's answer.
use native.Mathlib.Omega.{arith}
use mathlib.Core.Bool.{false≢true}
use Rattle.daylist.proofs.QueryLaws.{none_told, length_told_lem}
use Rattle.daylist.proofs.asking.ask.Goals as goal

pub toward-sieve-requires : goal.toward-sieve-requires
toward-sieve-requires c =
    let p = c.requires.0 in
    record {
      low = c.requires.4;
      x_long = λ h. omega (arith, p.x_long);
      y_long = λ h. omega (arith, p.y_long);
      modules_long = λ h. absurd (false≢true h);
    }

pub invariant_of-task : goal.invariant_of-task
invariant_of-task c =
    let told = c.toward-sieve.ensures in
    record {
      source = (c.requires.2, c.requires.3);
      room = rw (told.tests, told.boxes, told.masks) (record { boxes_lent = c.requires.0.shaped; masks_lent = tt });
    }

pub returns-then-not-outcome : goal.returns-then-not-outcome
returns-then-not-outcome c =
    let a = c.args in
    let G = a.signs in
    let told = c.toward-sieve.ensures in
    let run = rw (told.tests, told.boxes, told.masks) at c.run_along-outcome.ensures in
    none_told a.tracks.sound G.nodes.x.now G.nodes.y.now G.boxes.now a.s a.t c.requires.2 c.requires.3 run c.if-not-outcome.true

pub returns : goal.returns
returns c =
    let a = c.args in
    let G = a.signs in
    let told = c.toward-sieve.ensures in
    let run = rw (told.tests, told.boxes, told.masks) at c.run_along-outcome.ensures in
    length_told_lem a.tracks.sound G.nodes.x.now G.nodes.y.now G.boxes.now a.s a.t c.requires.2 c.requires.3 run c.if-not-outcome.false
