-- Calls that are accepted: what their replies tell, and that what they leave is judged fine and keeps every S(e).
use Prim.Native.Nat.{ℕ}
use mathlib.Core.Path.{◌≡◌, refl, sym, ap}
use mathlib.Core.Bool.{false≢true}
use mathlib.Core.List.{List, []}
use lib.IntN.{ℤ}
use Rattle.rules.specs.Paper.{Reply, accepted, refusal}
use Rattle.rules.proofs.PaperLaws.{refusal_nonzero}
use Rattle.rules.specs.declared.Asked.{Asked}
use Rattle.rules.specs.Judging.{Judged, fine}
use Rattle.rules.specs.declared.Refusal.{Refusal}
use Rattle.rules.specs.declared.Refusal.TheVariants.{Misses}
use Rattle.walks.specs.Walk.{Net}
use Rattle.walks.specs.Rows.{Rows, network}
use Rattle.walks.specs.Through.{Consistent}
use Rattle.passing.specs.Signs.{Signs, signs, boxes_alone, box_signs}
use Rattle.passing.specs.Passing.{Keeps}
use Rattle.drawing.specs.Drawn.{Drawn, DrawnIf, box_row, mask_row}
use Rattle.drawing.proofs.DrawnLaws.{if_long}
use Rattle.boxwork.specs.Tight.{Tight, Updated}
use Rattle.boxwork.specs.Masks.{MaskOf}
use Rattle.boxwork.specs.Says.{Builds, Checks, Updates, CheckBy, CheckSays}
use Rattle.judging.proofs.StageLaws.{SignsLent, lent_after}
use Rattle.judging.proofs.FineLaws.{shaped_judged}
use Rattle.boxwork.proofs.TightLaws.{InS_range, around_holds, updated_holds}
use Rattle.boxwork.proofs.MaskLaws.{mask_has}

-- ---- A refusal is not an accepting reply

refusal_other : (r : Refusal) {results : List ℕ} → refusal r ≡ accepted results → ⊥
refusal_other r e = refusal_nonzero r (ap (λ (z : Reply). z.number) (sym e))

module _ {judged : Judged} {N : Net} {asked : Asked} {G : Signs} where
  pub check_accepts : {reply : Reply} → Checks judged N asked G reply → reply ≡ accepted [] → (judged ≡ fine) × Consistent N (Keeps asked G)
  check_accepts (Checks.refused {r = r} e) p = absurd (refusal_other r p)
  check_accepts (Checks.consistent f c) p = (f, c)
  check_accepts (Checks.box_missed {e = e} {t = t} f d) p = absurd (refusal_other (Misses e t) p)
  check_accepts (Checks.mask_missed {e = e} {t = t} f c d) p = absurd (refusal_other (Misses e t) p)

  pub build_accepts : {m : ℕ} {reply : Reply} {boxes : List ℤ} {masks : List ℕ} → Builds judged N m asked G reply boxes masks → reply ≡ accepted []
      → (judged ≡ fine)
      × DrawnIf asked.boxes box_row m (λ e old new. Tight N G.x G.y e new) G.boxes boxes
      × DrawnIf asked.masks mask_row m (λ e old new. MaskOf N G.modules e new) G.masks masks
  build_accepts (Builds.refused {r = r} e) p = absurd (refusal_other r p)
  build_accepts (Builds.built f d d') p = (f, d, d')

pub update_accepts : {judged : Judged} {R R' left : Rows} {N : Net} {m : ℕ} {x y boxes after : List ℤ} {reply : Reply}
    → Updates judged R R' N m x y boxes reply left after → reply ≡ accepted []
    → (judged ≡ fine) × (left ≡ R') × Drawn box_row m (Updated N x y) boxes after
update_accepts (Updates.refused {r = r} e) p = absurd (refusal_other r p)
update_accepts (Updates.updated f d) p = (f, refl, d)

-- ---- What is left by a build, and by an update

pub built_accepted : {asked : Asked} {n m : ℕ} {R : Rows} {G : Signs} {boxes : List ℤ} {masks : List ℕ} → SignsLent asked n m R G
    → DrawnIf asked.boxes box_row m (λ e old new. Tight (network m R) G.x G.y e new) G.boxes boxes
    → DrawnIf asked.masks mask_row m (λ e old new. MaskOf (network m R) G.modules e new) G.masks masks
    → CheckBy asked n m R (signs G.x G.y boxes G.modules masks) (accepted [])
built_accepted {asked} {n} {m} {R} {G} l d d' =
    Checks.consistent
    (shaped_judged asked n m R _ (lent_after (if_long d) (if_long d') l) (λ h e low high. ((d.drawn h).entries e low high).shaped))
    (record {
      keeps = λ e t i.
          let r = InS_range l.sound i in
          record { box = λ h. around_holds ((d.drawn h).entries e r.0 r.1) i; mask = λ h. mask_has ((d'.drawn h).entries e r.0 r.1) i };
    })

pub updated_accepted : {n m : ℕ} {R : Rows} {x y boxes after : List ℤ} → SignsLent boxes_alone n m R (box_signs x y boxes)
    → Drawn box_row m (Updated (network m R) x y) boxes after → CheckSays n m R x y after (accepted [])
updated_accepted {n} {m} {R} {x} {y} {after = after} l d =
    Checks.consistent
    (shaped_judged boxes_alone n m R (box_signs x y after) (lent_after d.long refl l) (λ h e low high. (d.entries e low high).shaped))
    (record {
      keeps = λ e t i.
          let r = InS_range l.sound i in
          record { box = λ h. updated_holds (d.entries e r.0 r.1) i; mask = λ h. absurd (false≢true h) };
    })
