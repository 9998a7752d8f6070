-- `frontier::tree::lower` meets its contract. The loop's invariant: but for the place above i all is mended, and i has the key.
use native.Mathlib.Omega.{arith}
use mathlib.Core.Path.{refl}
use Rattle.frontier.proofs.Mending.{but_done, leaves_above}
use Rattle.frontier.proofs.Lowering.{lowered_leaf, lowered_stop, lowered_turn}
use Rattle.frontier.proofs.tree.lower.Goals as goal

pub loop-i-init : goal.loop-i-init
loop-i-init c = (omega arith, omega arith, lowered_leaf c.requires.2 _ _ (omega arith) (omega arith) c.requires.1, record { leaf = λ i low. refl })

pub returns-then-tree-i : goal.returns-then-tree-i
returns-then-tree-i c = let i = c.loop-i in record { mended = lowered_stop i.invariant.2 c.loop-i-test.true i.invariant.1 c.if-tree-i.true; leaves = i.invariant.3 }

pub loop-i-preserved : goal.loop-i-preserved
loop-i-preserved c =
    let i = c.loop-i in
    (omega arith, omega arith, lowered_turn i.invariant.2 c.loop-i-test.true i.invariant.1 c.if-tree-i.false, leaves_above i.i _ i.invariant.1 i.invariant.3)

pub returns : goal.returns
returns c = let i = c.loop-i in record { mended = but_done i.invariant.2.but c.loop-i-test.false; leaves = i.invariant.3 }
