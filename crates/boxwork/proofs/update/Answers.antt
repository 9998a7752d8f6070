-- `boxwork::update` meets its contract.
use Rattle.std.proofs.Common.{ℕ, ◌≤◌, ◌≡◌, refl, sym, List, ℤ, arith}
use Rattle.std.proofs.lemmas.Result.{err_from_is_err_and}
use Rattle.rules.specs.Judging.{fine}
use Rattle.walks.specs.Rows.{Rows, rows}
use Rattle.passing.specs.Signs.{Signs, boxes_alone, box_signs}
use Rattle.judging.specs.Order.{update_judged}
use Rattle.judging.proofs.StageLaws.{SignsLent}
use Rattle.judging.proofs.FineLaws.{check_fine, signs-lent, update_fine}
use Rattle.boxwork.specs.Says.{Updates, changed}
use Rattle.boxwork.proofs.ChangedLaws.{lent-changed}
use Rattle.boxwork.proofs.Parts.{of_boxes_lem}
use Rattle.boxwork.proofs.Meaning.{updated_says}
use Rattle.boxwork.proofs.update.Goals as goal

-- what is lent, where it was judged fine by the signs of boxes alone: the new network is sound too
lent_fine : (n m : ℕ) (R : Rows) {G : Signs} {x y boxes : List ℤ} (arc weight closure : ℕ) → G ≡ box_signs x y boxes
    → update_judged boxes_alone n m R G arc weight closure ≡ fine
    → SignsLent boxes_alone n m R G × (1 ≤ arc) × (arc ≤ m) × SignsLent boxes_alone n m (changed R arc weight closure) (box_signs x y boxes)
lent_fine n m R {G} arc weight closure same e =
    let u = update_fine boxes_alone n m R G arc weight closure e in
    let l = (check_fine boxes_alone n m R G u.0).lent in
    (l, u.1, u.2, rw same at (lent-changed l.sound arc weight closure u.1 u.2 u.3 u.4 l))

pub returns-in_err-judge_update : goal.returns-in_err-judge_update
returns-in_err-judge_update c =
    let told = err_from_is_err_and c.from_residual.result c.from_residual.ensures.1 in
    let S = c.of_boxes-signs.ensures in
    let alone = of_boxes_lem c.of_boxes-signs.result S.places S.boxes S.no_masks in
    rw (told.1, told.2) (Updates.refused (sym (rw alone at c.in_err-judge_update.ensures)))

pub set_arc-requires : goal.set_arc-requires
set_arc-requires c =
    let S = c.of_boxes-signs.ensures in
    let f = lent_fine _ _ _ _ _ _ (of_boxes_lem c.of_boxes-signs.result S.places S.boxes S.no_masks) (sym c.in_ok-judge_update.ensures) in
    (f.1, omega (arith, f.2, f.0.sound.weights_long), omega (arith, f.2, f.0.sound.closures_long))

pub tracks-requires : goal.tracks-requires
tracks-requires c =
    let S = c.of_boxes-signs.ensures in
    let f = lent_fine _ _ _ _ _ _ (of_boxes_lem c.of_boxes-signs.result S.places S.boxes S.no_masks) (sym c.in_ok-judge_update.ensures) in
    let wrote = c.set_arc.ensures in
    rw (wrote.weights_after, wrote.closures_after) f.3.sound

pub gather_all-requires : goal.gather_all-requires
gather_all-requires c =
    let S = c.of_boxes-signs.ensures in
    let f = lent_fine _ _ _ _ _ _ (of_boxes_lem c.of_boxes-signs.result S.places S.boxes S.no_masks) (sym c.in_ok-judge_update.ensures) in
    let same = c.tracks.ensures in
    rw (same.nodes, same.arcs) (signs-lent f.3)

pub returns : goal.returns
returns c =
    let a = c.args in
    let S = c.of_boxes-signs.ensures in
    let alone = of_boxes_lem c.of_boxes-signs.result S.places S.boxes S.no_masks in
    let wrote = c.set_arc.ensures in
    let same = c.tracks.ensures in
    updated_says _ (rows a.tails.now a.heads.now a.weights.now a.closures.now) a.change.arc a.change.weight a.change.closure
    (sym (rw alone at c.in_ok-judge_update.ensures))
    (rw (wrote.weights_after, wrote.closures_after) refl)
    ((rw (same.nodes, same.arcs, same.same) at c.gather_all.ensures.boxes_drawn).drawn refl)
