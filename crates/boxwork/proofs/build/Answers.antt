-- `boxwork::build` meets its contract.
use Rattle.std.proofs.Common.{arith, sym}
use Rattle.std.proofs.lemmas.Result.{err_from_is_err_and}
use Rattle.drawing.proofs.DrawnLaws.{if_long}
use Rattle.judging.proofs.StageLaws.{lent_after}
use Rattle.judging.proofs.FineLaws.{signs-lent, build_fine}
use Rattle.boxwork.specs.Says.{Builds}
use Rattle.boxwork.proofs.Meaning.{boxes_built_lem, masks_built_lem}
use Rattle.boxwork.proofs.build.Goals as goal

pub returns-in_err-judge_build : goal.returns-in_err-judge_build
returns-in_err-judge_build c =
    let told = err_from_is_err_and c.from_residual.result c.from_residual.ensures.1 in
    rw (told.1, told.2) (Builds.refused (sym c.in_err-judge_build.ensures))

pub tracks-tracks-requires : goal.tracks-tracks-requires
tracks-tracks-requires c = (build_fine _ _ _ _ _ (sym c.in_ok-judge_build.ensures)).sound

pub empty_boxes-requires : goal.empty_boxes-requires
empty_boxes-requires c =
    let l = build_fine _ _ _ _ _ (sym c.in_ok-judge_build.ensures) in
    (omega (arith, l.sound.arcs_high), λ h. omega (arith, (l.places h).boxes_long))

pub empty_masks-requires : goal.empty_masks-requires
empty_masks-requires c =
    let l = build_fine _ _ _ _ _ (sym c.in_ok-judge_build.ensures) in
    (omega (arith, l.sound.arcs_high), λ h. omega (arith, (l.modules h).masks_long))

pub gather_all-requires : goal.gather_all-requires
gather_all-requires c =
    let l = build_fine _ _ _ _ _ (sym c.in_ok-judge_build.ensures) in
    let same = c.tracks-tracks.ensures in
    rw (same.nodes, same.arcs) (signs-lent (lent_after (if_long c.empty_boxes.ensures) (if_long c.empty_masks.ensures) l))

pub returns : goal.returns
returns c =
    let passed = sym c.in_ok-judge_build.ensures in
    let l = build_fine _ _ _ _ _ passed in
    let same = c.tracks-tracks.ensures in
    let drawn = rw (same.nodes, same.arcs, same.same) at c.gather_all.ensures in
    Builds.built passed
    (boxes_built_lem l.sound (λ h. (l.places h).places) (rw same.arcs at c.empty_boxes.ensures) drawn.boxes_drawn)
    (masks_built_lem l.sound (λ h. (l.modules h).numbers) (rw same.arcs at c.empty_masks.ensures) drawn.masks_drawn)
