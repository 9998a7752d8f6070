-- `drawing::mark::mark_arcs` meets its contract. The loop's invariant: the arcs up to j are marked.
use Rattle.walks.specs.Judged.{rows_in}
use Rattle.drawing.specs.Drawn.{Drawn, mark_row}
use Rattle.drawing.specs.Leads.{leads_at, Marked}
use Rattle.drawing.proofs.mark.mark_arcs.Given as goal

abbrev pub invariant-loop-j : goal.invariant-loop-j
invariant-loop-j l = Drawn mark_row l.j (Marked (leads_at (rows_in l.tracks) l.lengths)) l.initial.marked l.marked
