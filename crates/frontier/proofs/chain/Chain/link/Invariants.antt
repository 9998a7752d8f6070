-- `frontier::chain::Chain::link` meets its contract. The loop's invariant: the arcs from place j on are linked.
use Rattle.frontier.proofs.Linking.{Linked}
use Rattle.frontier.proofs.chain.Chain.link.Given as goal

abbrev pub invariant-loop-j : goal.invariant-loop-j
invariant-loop-j l = Linked l.m l.j l.ends l.chain.first l.chain.next
