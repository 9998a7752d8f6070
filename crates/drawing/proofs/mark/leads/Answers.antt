-- `drawing::mark::leads` meets its contract: the arc's ends are nodes.
use Rattle.std.proofs.Common.{sym, arith, rules}
use Rattle.walks.specs.Judged.{rows_in}
use Rattle.walks.proofs.RowsLaws.{arc_at}
use Rattle.drawing.proofs.Steps.{leads_next}
use Rattle.drawing.proofs.mark.leads.Goals as goal

pub overflow_sub-head : goal.overflow_sub-head
overflow_sub-head c = (arc_at c.args.tracks.sound c.args.j c.requires).head_low

pub bounds-lengths-head : goal.bounds-lengths-head
bounds-lengths-head c = omega (arith, (arc_at c.args.tracks.sound c.args.j c.requires).head_high, c.args.tracks.sound.nodes_high)

pub overflow_sub-tail : goal.overflow_sub-tail
overflow_sub-tail c = (arc_at c.args.tracks.sound c.args.j c.requires).tail_low

pub bounds-lengths-tail : goal.bounds-lengths-tail
bounds-lengths-tail c = omega (arith, (arc_at c.args.tracks.sound c.args.j c.requires).tail_high, c.args.tracks.sound.nodes_high)

pub returns : goal.returns
returns c = sym (leads_next (rows_in c.args.tracks) c.args.lengths.now c.args.j (search rules))
