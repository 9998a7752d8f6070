-- Demand 3 is so.
use Prim.Native.Nat.{ℕ}
use mathlib.Core.Path.{◌≡◌, refl, subst, ◌∙◌}
use mathlib.Core.List.{List}
use native.Mathlib.Omega.{arith}
use lib.IntN.{ℤ}
use lib.ListN.{length}
use Rattle.rules.specs.declared.Asked.{Asked}
use Rattle.rules.specs.Judging.{Judged}
use Rattle.walks.specs.Rows.{Rows, network}
use Rattle.walks.proofs.ThroughLaws.{InS_begins, begins_InS}
use Rattle.walks.proofs.Pruning.{pruning}
use Rattle.walks.specs.Walk.{only}
use Rattle.passing.specs.Signs.{Signs, nothing, boxes_alone, no_signs}
use Rattle.passing.specs.Passing.{Keeps}
use Rattle.passing.proofs.PassingLaws.{passing-only}
use Rattle.search.specs.Says.{Says, refused, answered}
use Rattle.search.proofs.Networks.{answers_alike, says_alike}
use Rattle.boxwork.specs.Says.{Checks}
use Rattle.judging.proofs.FineLaws.{build_fine, check_fine, update_fine, judged_alike, room_alike}
use Rattle.boxwork.proofs.ChangedLaws.{lent-changed}
use Rattle.boxwork.specs.Demand3.{CheckExactly, AfterYes, NoRouteExactly, BuildYes, UpdateYes}
use Rattle.boxwork.proofs.Agreeing.{says_agree, answers-none}
use Rattle.boxwork.proofs.Accepting.{check_accepts, build_accepts, update_accepts, built_accepted, updated_accepted}

module _ (asked : Asked) (n m : ℕ) (R : Rows) (G : Signs) where
  pub check_exactly : CheckExactly asked n m R G
  check_exactly = (
    (λ c. let h = check_accepts c refl in (h.0, record { holds = λ e t b. h.1.keeps e t (begins_InS b) })),
    (λ h. Checks.consistent h.0 (record { keeps = λ e t i. h.1.holds e t (InS_begins i) })),
  )

  pub after_yes : AfterYes asked n m R G
  after_yes c s t before before' after after' reply reply' room p q =
      let h = check_accepts c refl in
      let alike = judged_alike asked n m R G h.0 no_signs s t (length before') ∙ room_alike nothing n m R no_signs s t room in
      let kept = says_alike (passing-only asked G t (network m R)) q in
      says_agree (pruning h.1 s t) p (subst (λ (j : Judged). Says j (only (λ e. Keeps asked G e t) (network m R)) n s t before' reply' after') alike kept)

  pub no_route_exactly : NoRouteExactly asked n m R G
  no_route_exactly c s t before after reply fine (refused e) = let z : ◌≡◌ {A = ℕ} 0 1 = cc in absurd (omega arith)
  no_route_exactly c s t before after reply fine (answered f a) =
      answers-none (pruning (check_accepts c refl).1 s t) (answers_alike (passing-only asked G t (network m R)) a)

  pub build_yes : BuildYes asked n m R G
  build_yes boxes masks b = let h = build_accepts b refl in built_accepted (build_fine asked n m R G h.0) h.1 h.2

pub update_yes : (n m : ℕ) (R : Rows) (x y boxes : List ℤ) → UpdateYes n m R x y boxes
update_yes n m R x y boxes before arc weight closure R' u =
    let h = update_accepts u refl in
    let f = update_fine boxes_alone n m R _ _ _ _ h.0 in
    let l = (check_fine boxes_alone n m R _ f.0).lent in
    rw h.1 (updated_accepted (lent-changed l.sound _ _ _ f.1 f.2 f.3 f.4 l) h.2)
