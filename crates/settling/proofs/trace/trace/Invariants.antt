-- `settling::trace::trace` meets its contract. The loop's invariant: the rest of the trace gives the whole route.
use Prim.Native.Nat.{◌≤◌}
use mathlib.Core.Path.{◌≡◌}
use Rattle.walks.specs.Judged.{rows_in}
use Rattle.passing.specs.Sieving.{keeps_by}
use Rattle.settling.specs.Trace.{trace_of}
use Rattle.settling.proofs.trace.trace.Given as goal

abbrev pub invariant-loop-k : goal.invariant-loop-k
invariant-loop-k l =
    let T = l.tracks in
    let K = keeps_by l.task.sieve T.closures.now in
    (1 ≤ l.v)
    × (l.v ≤ 512)
    × (trace_of (rows_in T) K T.m l.labels l.k l.v l.route ≡ trace_of (rows_in T) K T.m l.labels l.count l.task.t l.initial.route)
