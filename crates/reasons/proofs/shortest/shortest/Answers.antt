-- `reasons::shortest::shortest` meets its contract: what the run tells is the shortest way.
use Rattle.reasons.proofs.Ways.{way_cut, way_leads}
use Rattle.reasons.proofs.shortest.shortest.Goals as goal

pub returns-then-not-outcome : goal.returns-then-not-outcome
returns-then-not-outcome c =
    let run = rw c.open-sieve.ensures at c.run-outcome.ensures in
    way_cut c.args.tracks.sound c.requires.0 c.requires.1 run c.if-not-outcome.true

pub returns : goal.returns
returns c =
    let run = rw c.open-sieve.ensures at c.run-outcome.ensures in
    way_leads c.args.tracks.sound c.requires.0 c.requires.1 run c.if-not-outcome.false
