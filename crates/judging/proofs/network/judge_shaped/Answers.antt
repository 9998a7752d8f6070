-- `judging::network::judge_shaped` meets its contract: the boxes were judged to be lent.
use Rattle.std.proofs.Common.{sym}
use Rattle.walks.specs.Lent.{rows_of}
use Rattle.passing.specs.Lent.{signs_of}
use Rattle.judging.proofs.StageLaws.{placed_fine}
use Rattle.judging.proofs.network.judge_shaped.Goals as goal

pub judge_boxes-requires : goal.judge_boxes-requires
judge_boxes-requires c =
    let a = c.args in
    ((placed_fine _ _ (rows_of a.net) a.asked (signs_of a.signs) a.others (sym c.in_ok-judge_placed.ensures)).0.places c.if-asked.true).boxes_long
