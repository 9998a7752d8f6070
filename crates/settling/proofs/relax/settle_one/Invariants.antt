-- `settling::relax::settle_one` meets its contract. The loop's invariant: the labels are those after the arcs 1..j, and j is
-- the place of the next arc out of u.
use Prim.Native.Nat.{◌-◌, ◌<◌, ◌≤◌}
use mathlib.Core.Path.{◌≡◌}
use lib.ListN.{get_or}
use Rattle.walks.specs.Judged.{rows_in}
use Rattle.passing.specs.Sieving.{keeps_by}
use Rattle.settling.specs.Labels.{marked}
use Rattle.settling.specs.Settle.{relaxed}
use Rattle.settling.specs.Front.{Become}
use Rattle.settling.proofs.relax.settle_one.Given as goal

abbrev pub invariant-loop-j : goal.invariant-loop-j
invariant-loop-j l =
    (l.j ≤ l.tracks.m)
    × (l.j < l.tracks.m → get_or l.tracks.tails.now l.j 0 ≡ l.u)
    × Become (relaxed (rows_in l.tracks) (keeps_by l.task.sieve l.tracks.closures.now) l.u l.l l.k (marked l.fn.labels l.u) l.j) l.labels l.tree

abbrev pub decreases-loop-j : goal.decreases-loop-j
decreases-loop-j l = l.tracks.m - l.j
