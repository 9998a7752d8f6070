-- `settling::trace::arc_into` meets its contract. The loop's invariant: the look from place j on is the whole look, and j is
-- the place of the next arc into v.
use Prim.Native.Nat.{◌-◌, ◌<◌, ◌≤◌}
use mathlib.Core.Path.{◌≡◌}
use lib.ListN.{get_or}
use Rattle.walks.specs.Judged.{rows_in}
use Rattle.passing.specs.Sieving.{keeps_by}
use Rattle.settling.specs.Trace.{arc_fits, into_of}
use Rattle.settling.proofs.TraceSteps.{Rest}
use Rattle.settling.proofs.trace.arc_into.Given as goal

abbrev pub invariant-loop-j : goal.invariant-loop-j
invariant-loop-j l =
    let R = rows_in l.tracks in
    let K = keeps_by l.task.sieve l.tracks.closures.now in
    Rest (arc_fits R K l.labels l.v) l.tracks.m (into_of R K l.labels l.v l.tracks.m) l.j
    × (l.j ≤ l.tracks.m)
    × (l.j < l.tracks.m → get_or l.tracks.heads.now l.j 0 ≡ l.v)

abbrev pub decreases-loop-j : goal.decreases-loop-j
decreases-loop-j l = l.tracks.m - l.j
