-- `loading::reading::graph_into` meets its contract.
use Rattle.std.proofs.lemmas.Result.{err_from_is_err_and}
use Rattle.dimacs.proofs.Accepted.{read_gr_limits}
use Rattle.loading.specs.Loading.{graph_unread, graph_refused, graph_read}
use Rattle.loading.proofs.LoadingLaws.{not_read}
use Rattle.loading.proofs.reading.graph_into.Goals as goal

pub returns-in_err-text-clause-reads : goal.returns-in_err-text-clause-reads
returns-in_err-text-clause-reads c x y boxes =
    let p = err_from_is_err_and c.from_residual.result c.from_residual.ensures.1 in
    let none = not_read _ c.in_err-text.ensures.value in
    rw (p.1, p.2, none.0, none.1) graph_unread

pub returns-in_err-sizes-clause-reads : goal.returns-in_err-sizes-clause-reads
returns-in_err-sizes-clause-reads c x y boxes =
    let p = err_from_is_err_and c.from_residual-in_err-sizes.result c.from_residual-in_err-sizes.ensures.1 in
    rw (p.1, p.2, c.in_ok-text.ensures.ok_part) (graph_refused c.in_err-sizes.ensures)

pub returns-clause-reads : goal.returns-clause-reads
returns-clause-reads c x y boxes = rw c.in_ok-text.ensures.ok_part (graph_read c.in_ok-sizes.ensures)

pub returns-clause-small : goal.returns-clause-small
returns-clause-small c = (read_gr_limits _ _ _ _ _ _ _ _ _ _ _ c.in_ok-sizes.ensures).arcs
