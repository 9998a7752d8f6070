-- `frontier::chain::Chain::link` meets its contract.
use mathlib.Core.Path.{refl}
use Rattle.frontier.proofs.Linking.{linked_none}
use Rattle.frontier.proofs.chain.Chain.link.Goals as goal

pub loop-j-init : goal.loop-j-init
loop-j-init c = linked_none _ _ _ refl
