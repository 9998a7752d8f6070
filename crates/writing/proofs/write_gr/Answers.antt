-- `writing::write_gr` meets its contract.
use mathlib.Core.Path.{sym}
use Rattle.std.proofs.lemmas.Result.{err_from_is_err_and}
use Rattle.writing.proofs.WriteLaws.{gr_judged, gr_fine, writes_out, writes_on}
use Rattle.writing.proofs.write_gr.Goals as goal

pub returns-in_err-judge_arc_rows : goal.returns-in_err-judge_arc_rows
returns-in_err-judge_arc_rows c =
    let p = err_from_is_err_and c.from_residual.result c.from_residual.ensures.1 in
    writes_out _ _ _ _ _ (gr_judged _ _ _ _) (sym c.in_err-judge_arc_rows.ensures) (rw p.2 at p.1)

pub put_network-requires : goal.put_network-requires
put_network-requires c = let f = gr_fine _ _ _ (sym c.in_ok-judge_arc_rows.ensures) in record { m_in_bounds = (f.0, f.1, f.2); text_fits = f.3 }

pub returns : goal.returns
returns c =
    writes_on _ _ _ _ _ _ _ (gr_judged _ _ _ _) (sym c.in_ok-judge_arc_rows.ensures) (rw (c.text.ensures.text, c.put_network.ensures) at c.hand_over.ensures)
