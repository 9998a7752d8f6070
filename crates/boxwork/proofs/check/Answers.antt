-- `boxwork::check` meets its contract: refused as judged, or by the boxes, or by the masks.
use Rattle.std.proofs.Common.{sym}
use mathlib.Core.Bool.{false≢true}
use Rattle.std.proofs.lemmas.Result.{err_from_is_err_and}
use Rattle.judging.proofs.FineLaws.{signs-lent, check_fine}
use Rattle.boxwork.specs.Says.{Checks}
use Rattle.boxwork.proofs.Parts.{lent_boxes, lent_masks, missing_fine, boxes_missed, masks_decide}
use Rattle.boxwork.proofs.check.Goals as goal

pub returns-in_err-judge_check : goal.returns-in_err-judge_check
returns-in_err-judge_check c =
    let told = err_from_is_err_and c.from_residual.result c.from_residual.ensures.1 in
    rw (told.1, told.2) (Checks.refused (sym c.in_err-judge_check.ensures))

pub tracks-tracks-requires : goal.tracks-tracks-requires
tracks-tracks-requires c = (check_fine _ _ _ _ _ (sym c.in_ok-judge_check.ensures)).lent.sound

pub judge_misses-requires : goal.judge_misses-requires
judge_misses-requires c =
    let l = check_fine _ _ _ _ _ (sym c.in_ok-judge_check.ensures) in
    let same = c.tracks-tracks.ensures in
    rw (same.nodes, same.arcs) (lent_boxes (signs-lent l.lent), l.shaped)

pub returns-in_err-judge_misses : goal.returns-in_err-judge_misses
returns-in_err-judge_misses c =
    let same = c.tracks-tracks.ensures in
    let told = err_from_is_err_and c.from_residual-in_err-judge_misses.result c.from_residual-in_err-judge_misses.ensures.1 in
    rw (told.1, told.2) (boxes_missed (sym c.in_ok-judge_check.ensures) (rw (same.arcs, same.same) at c.in_err-judge_misses.ensures))

pub judge_misses-requires-2 : goal.judge_misses-requires-2
judge_misses-requires-2 c =
    let l = check_fine _ _ _ _ _ (sym c.in_ok-judge_check.ensures) in
    let same = c.tracks-tracks.ensures in
    rw (same.nodes, same.arcs) (lent_masks (signs-lent l.lent), λ h. absurd (false≢true h))

pub returns : goal.returns
returns c =
    let same = c.tracks-tracks.ensures in
    masks_decide (sym c.in_ok-judge_check.ensures)
    (missing_fine (rw (same.arcs, same.same) at c.in_ok-judge_misses.ensures))
    (rw (same.arcs, same.same) at c.judge_misses-2.ensures)
