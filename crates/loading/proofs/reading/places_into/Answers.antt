-- `loading::reading::places_into` meets its contract.
use Rattle.std.proofs.lemmas.Result.{err_from_is_err_and}
use Rattle.std.specs.Prelude.{Ok, Err}
use Rattle.loading.specs.Loading.{places_unread, places_refused, built}
use Rattle.loading.proofs.LoadingLaws.{not_read}
use Rattle.loading.proofs.reading.places_into.Goals as goal

pub returns-in_err-text : goal.returns-in_err-text
returns-in_err-text c =
    let p = err_from_is_err_and c.from_residual.result c.from_residual.ensures.1 in
    let none = not_read _ c.in_err-text.ensures.value in
    rw (p.1, p.2, none.0, none.1) places_unread

pub returns-in_err-read_co : goal.returns-in_err-read_co
returns-in_err-read_co c =
    let p = err_from_is_err_and c.from_residual-in_err-read_co.result c.from_residual-in_err-read_co.ensures.1 in
    rw (p.1, p.2, c.in_ok-text.ensures.ok_part) (places_refused c.in_err-read_co.ensures)

pub returns-in_err-build_boxes : goal.returns-in_err-build_boxes
returns-in_err-build_boxes c =
    let p = err_from_is_err_and c.from_residual-in_err-build_boxes.result c.from_residual-in_err-build_boxes.ensures.1 in
    rw (p.1, p.2, c.in_ok-text.ensures.ok_part) (built (Err _) c.in_ok-read_co.ensures c.in_err-build_boxes.ensures)

pub returns : goal.returns
returns c = rw c.in_ok-text.ensures.ok_part (built (Ok tt) c.in_ok-read_co.ensures c.in_ok-build_boxes.ensures)
