-- `search::find::find` meets its contract: what the run and the trace give is an answer.
use native.Mathlib.Omega.{arith}
use borrow.Author.Tests.{not-true, not-false}
use Rattle.search.proofs.Answering.{count_small, none_answers, route-fits, found-answers}
use Rattle.search.proofs.find.find.Goals as goal

pub overflow_cast-settled : goal.overflow_cast-settled
overflow_cast-settled c =
    let T = c.args.task in
    omega (arith, count_small T.tracks.sound _ T.s T.t T.source.0 T.source.1 c.args.route.now c.requires.2 c.run-outcome.ensures)

pub returns-then-not-outcome : goal.returns-then-not-outcome
returns-then-not-outcome c =
    let T = c.args.task in
    none_answers T.tracks.sound _ T.s T.t T.source.0 T.source.1 c.args.route.now c.requires.2 c.run-outcome.ensures (not-true _ c.if-not-outcome.true)

pub trace-requires : goal.trace-requires
trace-requires c =
    let T = c.args.task in
    let fits = route-fits T.tracks.sound _ T.s T.t T.source.0 T.source.1 c.args.route.now c.requires.2 c.run-outcome.ensures (not-false _ c.if-not-outcome.false) in
    (c.requires.0, omega (arith, c.requires.1, T.tracks.sound.nodes_high), fits)

pub returns : goal.returns
returns c =
    let T = c.args.task in
    found-answers T.tracks.sound _ T.s T.t T.source.0 T.source.1 c.args.route.now c.requires.2 c.run-outcome.ensures (not-false _ c.if-not-outcome.false) c.trace.ensures
