-- `judging::network::judge_network` meets its contract: the row of closures was judged long enough.
use Rattle.std.proofs.Common.{sym}
use Rattle.walks.specs.Lent.{rows_of}
use Rattle.judging.proofs.StageLaws.{closed_fine}
use Rattle.judging.proofs.network.judge_network.Goals as goal

pub judge_closures-requires : goal.judge_closures-requires
judge_closures-requires c =
    let a = c.args in
    (closed_fine a.net.n a.net.m (rows_of a.net) a.others (sym c.in_ok-judge_arc_rows.ensures)).0.closures_long
