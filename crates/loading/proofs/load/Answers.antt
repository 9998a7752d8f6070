-- `loading::load` meets its contract.
use Rattle.std.proofs.lemmas.Result.{err_from_is_err_and}
use Rattle.loading.proofs.LoadingLaws.{graph_fails, places_next}
use Rattle.loading.proofs.load.Goals as goal

pub returns-in_err-map_err-clause-loads : goal.returns-in_err-map_err-clause-loads
returns-in_err-map_err-clause-loads c =
    let p = err_from_is_err_and c.from_residual.result c.from_residual.ensures.1 in
    rw (p.1, p.2) (graph_fails _ c.in_err-map_err.ensures.cases (c.graph_into.ensures.reads _ _ _))

pub returns-clause-loads : goal.returns-clause-loads
returns-clause-loads c = places_next _ _ c.in_ok-map_err.ensures.cases c.map_err-2.ensures.cases (c.graph_into.ensures.reads _ _ _) c.places_into.ensures
