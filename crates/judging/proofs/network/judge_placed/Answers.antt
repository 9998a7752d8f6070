-- `judging::network::judge_placed` meets its contract: what is asked was judged long enough.
use Rattle.std.proofs.Common.{sym, ◌∙◌}
use Rattle.walks.specs.Lent.{rows_of}
use Rattle.passing.specs.Lent.{signs_of}
use Rattle.judging.proofs.StageLaws.{network_fine, signs_long_lem}
use Rattle.judging.proofs.network.judge_placed.Goals as goal

pub judge_places-requires : goal.judge_places-requires
judge_places-requires c =
    let a = c.args in
    let long = (network_fine a.net.n a.net.m (rows_of a.net) _ (sym c.in_ok-judge_network.ensures)).1 in
    let rows = (signs_long_lem _ _ a.asked (signs_of a.signs) a.others (sym c.signs_long.ensures ∙ long)).0 c.if-asked.true in
    (rows.0, rows.1)

pub judge_modules-requires : goal.judge_modules-requires
judge_modules-requires c =
    let a = c.args in
    let long = (network_fine a.net.n a.net.m (rows_of a.net) _ (sym c.in_ok-judge_network.ensures)).1 in
    ((signs_long_lem _ _ a.asked (signs_of a.signs) a.others (sym c.signs_long.ensures ∙ long)).1 c.if-asked-2.true).0
