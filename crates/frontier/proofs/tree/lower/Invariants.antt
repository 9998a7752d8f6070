-- `frontier::tree::lower` meets its contract. The loop's invariant: but for the place above i all is mended, and i has the key.
use Prim.Native.Nat.{◌<◌, ◌≤◌}
use Rattle.frontier.specs.Tree.{SameLeaves}
use Rattle.frontier.proofs.Lowering.{Lowered}
use Rattle.frontier.proofs.tree.lower.Given as goal

abbrev pub invariant-loop-i : goal.invariant-loop-i
invariant-loop-i l = (1 ≤ l.i) × (l.i < 1_024) × Lowered l.tree l.i l.x × SameLeaves l.initial.tree l.tree

abbrev pub decreases-loop-i : goal.decreases-loop-i
decreases-loop-i l = l.i
