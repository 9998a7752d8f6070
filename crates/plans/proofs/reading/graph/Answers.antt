-- `plans::reading::graph` meets its contract.
use Rattle.std.proofs.Common.{refl}
use Rattle.desk.proofs.DeskLaws.{copied_back}
use Rattle.desk.proofs.RequestLaws.{graph_on}
use Rattle.plans.proofs.reading.graph.Goals as goal

pub returns-clause-reads : goal.returns-clause-reads
returns-clause-reads c =
    let d = c.args.desk.now in
    let left = c.read_graph-desk.new in
    let kept = c.read_graph-desk.auto in
    let tails = copied_back _ c.fetch-a.new.to left.tails c.fetch-a.ensures.count kept.tails in
    let heads = copied_back _ c.fetch-b.new.to left.heads c.fetch-b.ensures.count kept.heads in
    let weights = copied_back _ c.fetch-c.new.to left.weights c.fetch-c.ensures.count kept.weights in
    let closures = copied_back _ c.fetch-d.new.to left.closures c.fetch-d.ensures.count kept.closures in
    let read =
    rw (c.fetch-a.ensures.copied, c.fetch-b.ensures.copied, c.fetch-c.ensures.copied, c.fetch-d.ensures.copied) at c.read_graph-desk.ensures.reads in
    rw (c.give-3.ensures, c.give-2.ensures, c.give.ensures, c.give-4.ensures, tails, heads, weights, closures) (graph_on d refl read)
