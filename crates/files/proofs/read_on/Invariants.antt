-- `files::read_on` meets its contract.
use Rattle.std.proofs.Common.{◌≤◌, ◌-◌, length}
use Rattle.files.proofs.read_on.Given as goal

abbrev pub invariant-loop-at : goal.invariant-loop-at
invariant-loop-at g l = l.at ≤ length l.text

abbrev pub decreases-loop-at : goal.decreases-loop-at
decreases-loop-at g l = length l.text - l.at
