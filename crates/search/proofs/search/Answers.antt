-- `search::search` meets its contract: refused as judged, or answered over the arcs that pass the tests asked.
use mathlib.Core.Path.{sym, ap}
use Rattle.std.proofs.lemmas.Result.{err_from_is_err_and}
use Rattle.walks.specs.Rows.{Rows}
use Rattle.passing.specs.Lent.{signs_of}
use Rattle.passing.proofs.RoomLaws.{lent-told, lent_room}
use Rattle.passing.proofs.PassingLaws.{tested_arcs}
use Rattle.judging.proofs.FineLaws.{signs-lent, search_fine}
use Rattle.search.specs.Says.{refused, answered}
use Rattle.search.proofs.Networks.{answers_alike}
use Rattle.search.proofs.search.Goals as goal

pub returns-in_err-judge_search : goal.returns-in_err-judge_search
returns-in_err-judge_search c =
    let p = err_from_is_err_and c.from_residual.result c.from_residual.ensures.1 in
    rw (p.1, p.2) (refused (sym c.in_err-judge_search.ensures))

pub tracks-requires : goal.tracks-requires
tracks-requires c = (search_fine _ _ _ _ _ _ _ _ (sym c.in_ok-judge_search.ensures)).0.sound

pub toward-requires : goal.toward-requires
toward-requires c =
    let f = search_fine _ _ _ _ _ _ _ _ (sym c.in_ok-judge_search.ensures) in
    lent-told (signs-lent f.1.lent) c.args.t f.0.target_low f.0.target_high

pub invariant_of-task : goal.invariant_of-task
invariant_of-task c =
    let f = search_fine _ _ _ _ _ _ _ _ (sym c.in_ok-judge_search.ensures) in
    let l = f.0 in
    let room = lent_room (signs-lent f.1.lent) c.args.t l.target_low l.target_high f.1.shaped in
    let told = c.toward.ensures in
    record {
      source = rw c.tracks.ensures.nodes (l.source_low, l.source_high);
      room = rw (told.tests, told.boxes, told.masks, c.tracks.ensures.arcs) room;
    }

pub find-requires : goal.find-requires
find-requires c =
    let l = (search_fine _ _ _ _ _ _ _ _ (sym c.in_ok-judge_search.ensures)).0 in
    rw c.tracks.ensures.nodes (l.target_low, l.target_high, l.room)

pub returns : goal.returns
returns c =
    let f = search_fine _ _ _ _ _ _ _ _ (sym c.in_ok-judge_search.ensures) in
    let a = c.args in
    let told = c.toward.ensures in
    let laid = c.tracks.ensures in
    let closures = ap (λ (R : Rows). R.closures) laid.same in
    let answers = rw (laid.same, closures, laid.nodes, laid.arcs, told.tests, told.boxes, told.masks) at c.find.ensures in
    answered (sym c.in_ok-judge_search.ensures)
    (answers_alike (tested_arcs a.asked (signs_of a.signs) a.t a.net.m _ (λ h. ((f.1.lent.modules h).numbers a.t f.0.target_low f.0.target_high).0)) answers)
