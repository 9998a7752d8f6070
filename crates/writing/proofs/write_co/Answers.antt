-- `writing::write_co` meets its contract.
use mathlib.Core.Path.{sym}
use Rattle.std.proofs.lemmas.Result.{err_from_is_err_and}
use Rattle.writing.proofs.WriteLaws.{co_judged, co_fine, writes_out, writes_on}
use Rattle.writing.proofs.write_co.Goals as goal

pub returns-in_err-judge_coordinates : goal.returns-in_err-judge_coordinates
returns-in_err-judge_coordinates c =
    let p = err_from_is_err_and c.from_residual.result c.from_residual.ensures.1 in
    writes_out _ _ _ _ _ (co_judged _ _ _ _) (sym c.in_err-judge_coordinates.ensures) (rw p.2 at p.1)

pub put_places-requires : goal.put_places-requires
put_places-requires c = let f = co_fine _ _ _ (sym c.in_ok-judge_coordinates.ensures) in record { n_in_bounds = (f.0, f.1); text_fits = f.2 }

pub returns : goal.returns
returns c =
    writes_on _ _ _ _ _ _ _ (co_judged _ _ _ _) (sym c.in_ok-judge_coordinates.ensures) (rw (c.text.ensures.text, c.put_places.ensures) at c.hand_over.ensures)
