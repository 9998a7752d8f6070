-- `daylist::answer_all` meets its contract: refused as its text is, or as its rows are, or answered as it was read.
use Rattle.std.proofs.lemmas.Result.{err_from_is_err_and}
use Rattle.daylist.specs.Says.{text_refused, rows-refused}
use Rattle.daylist.proofs.ReadLaws.{as_checked, day_lent, text_taken, text_limits, list_says}
use Rattle.daylist.proofs.ReadLaws as laws
use Rattle.daylist.proofs.answer_all.Goals as goal

pub returns-in_err-k : goal.returns-in_err-k
returns-in_err-k c =
    let p = err_from_is_err_and c.from_residual.result c.from_residual.ensures.1 in
    rw (p.1, p.2) (text_refused (laws.text_refused _ _ _ _ _ _ _ _ c.in_err-k.ensures))

pub returns-in_err-judge_check : goal.returns-in_err-judge_check
returns-in_err-judge_check c =
    let p = err_from_is_err_and c.from_residual-in_err-judge_check.result c.from_residual-in_err-judge_check.ensures.1 in
    let s = c.of_boxes-signs.ensures in
    let judged = rw (s.places.0, s.places.1, s.boxes, s.no_masks.0, s.no_masks.1) at c.in_err-judge_check.ensures in
    rw (p.1, p.2) (rows-refused (text_taken _ _ _ _ _ _ _ _ c.in_ok-k.ensures).is_read (as_checked _ _ _ _ _ _ judged))

pub tracks-requires : goal.tracks-requires
tracks-requires c =
    let s = c.of_boxes-signs.ensures in
    let judged = rw (s.places.0, s.places.1, s.boxes, s.no_masks.0, s.no_masks.1) at c.in_ok-judge_check.ensures in
    (day_lent _ _ _ _ _ _ (as_checked _ _ _ _ _ _ judged)).sound

pub answer_each-totals-requires : goal.answer_each-totals-requires
answer_each-totals-requires c =
    let s = c.of_boxes-signs.ensures in
    let judged = rw (s.places.0, s.places.1, s.boxes, s.no_masks.0, s.no_masks.1) at c.in_ok-judge_check.ensures in
    let laid = c.tracks.ensures in
    let limits = text_limits _ _ _ _ _ _ _ _ c.in_ok-k.ensures in
    rw (laid.same, laid.nodes, laid.arcs, s.places.0, s.places.1, s.boxes) (day_lent _ _ _ _ _ _ (as_checked _ _ _ _ _ _ judged), limits.0, limits.1)

pub returns : goal.returns
returns c =
    let s = c.of_boxes-signs.ensures in
    let judged = rw (s.places.0, s.places.1, s.boxes, s.no_masks.0, s.no_masks.1) at c.in_ok-judge_check.ensures in
    let laid = c.tracks.ensures in
    list_says (text_taken _ _ _ _ _ _ _ _ c.in_ok-k.ensures) (as_checked _ _ _ _ _ _ judged)
    (rw (laid.same, laid.nodes, laid.arcs, s.places.0, s.places.1, s.boxes) at c.answer_each-totals.ensures)
