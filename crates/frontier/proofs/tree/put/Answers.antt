-- `frontier::tree::put` meets its contract.
use native.Mathlib.Omega.{arith}
use Rattle.frontier.proofs.Mending.{but_stop, but_turn, leaves_above}
use Rattle.frontier.proofs.tree.put.Goals as goal

pub returns-then-tree-i : goal.returns-then-tree-i
returns-then-tree-i c =
    let i = c.loop-i in
    record { mended = but_stop i.invariant.2 c.loop-i-test.true i.invariant.1 _ c.min-y.ensures c.if-tree-i.true; leaves = i.invariant.3 }

pub loop-i-preserved : goal.loop-i-preserved
loop-i-preserved c =
    let i = c.loop-i in
    (omega arith, omega arith, but_turn i.invariant.2 c.loop-i-test.true i.invariant.1 _ c.min-y.ensures, leaves_above i.i _ i.invariant.1 i.invariant.3)
