-- `frontier::tree::put` meets its contract. The loop's invariant: but for the place above i all is mended.
use Prim.Native.Nat.{◌<◌, ◌≤◌}
use Rattle.frontier.specs.Tree.{SameLeaves}
use Rattle.frontier.proofs.Mending.{But}
use Rattle.frontier.proofs.tree.put.Given as goal

abbrev pub invariant-loop-i : goal.invariant-loop-i
invariant-loop-i l = (1 ≤ l.i) × (l.i < 1_024) × But l.tree l.i × SameLeaves l.initial.tree l.tree

abbrev pub decreases-loop-i : goal.decreases-loop-i
decreases-loop-i l = l.i
