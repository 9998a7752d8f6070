-- `drawing::mark::mark_toward` meets its contract.
use Rattle.walks.specs.Judged.{rows_in}
use Rattle.drawing.proofs.Steps.{lengths_turned}
use Rattle.drawing.proofs.mark.mark_toward.Goals as goal

pub returns : goal.returns
returns c =
    let e = c.turned.ensures in
    rw (lengths_turned {Q = rows_in c.turned.result} c.args.t c.label_all-labels.ensures e.turned e.nodes e.arcs) at c.mark_arcs.ensures
