-- `frontier::tree::nearest` meets its contract.
use Rattle.frontier.proofs.Keys.{pick_none, pick_some}
use Rattle.frontier.proofs.tree.nearest.Goals as goal

pub returns-then-x-ge-FAR : goal.returns-then-x-ge-FAR
returns-then-x-ge-FAR c = pick_none _ c.if-x-ge-FAR.true

pub returns : goal.returns
returns c = pick_some _ c.if-x-ge-FAR.false
