-- For each input one reply and one content of every lent row, refused calls too.
use Prim.Native.Nat.{ℕ}
use mathlib.Core.Path.{◌≡◌, refl}
use mathlib.Core.List.{List}
use native.Mathlib.Omega.{arith}
use lib.IntN.{ℤ}
use Rattle.rules.specs.Paper.{Reply}
use Rattle.rules.specs.declared.Asked.{Asked}
use Rattle.rules.specs.Judging.{Judged}
use Rattle.walks.specs.Walk.{Net}
use Rattle.walks.specs.Rows.{Rows}
use Rattle.walks.proofs.CheckingLaws.{missed_arc, missed_node, consistent_misses}
use Rattle.passing.specs.Signs.{Signs}
use Rattle.drawing.proofs.DrawnLaws.{puts_box, puts_single, drawn_unique, if_unique}
use Rattle.boxwork.proofs.TightLaws.{around_unique, updated_unique}
use Rattle.boxwork.proofs.MaskLaws.{mask_unique}
use Rattle.boxwork.proofs.Parts.{by_boxes, by_masks}
use Rattle.boxwork.specs.Says.{Builds, Checks, Updates}

module _ {judged : Judged} {N : Net} {asked : Asked} {G : Signs} where
  pub build_unique : {m : ℕ} {reply reply' : Reply} {boxes boxes' : List ℤ} {masks masks' : List ℕ}
      → Builds judged N m asked G reply boxes masks → Builds judged N m asked G reply' boxes' masks' → (reply ≡ reply') × (boxes ≡ boxes') × (masks ≡ masks')
  build_unique (Builds.refused {r = r} e) (Builds.refused {r = r'} e') = let same : r ≡ r' = cc in (rw same, refl, refl)
  build_unique (Builds.refused e) (Builds.built f d k) = let z : ◌≡◌ {A = ℕ} 0 1 = cc in absurd (omega arith)
  build_unique (Builds.built f d k) (Builds.refused e) = let z : ◌≡◌ {A = ℕ} 0 1 = cc in absurd (omega arith)
  build_unique (Builds.built f d k) (Builds.built f' d' k') = (
    refl,
    if_unique puts_box (λ e low high b c c' p q. around_unique p q) d d',
    if_unique (puts_single 0) (λ e low high b c c' p q. mask_unique p q) k k',
  )

  pub check_unique : {reply reply' : Reply} → Checks judged N asked G reply → Checks judged N asked G reply' → reply ≡ reply'
  check_unique (Checks.refused {r = r} e) (Checks.refused {r = r'} e') = let same : r ≡ r' = cc in rw same
  check_unique (Checks.refused e) (Checks.consistent f c) = let z : ◌≡◌ {A = ℕ} 0 1 = cc in absurd (omega arith)
  check_unique (Checks.refused e) (Checks.box_missed f d) = let z : ◌≡◌ {A = ℕ} 0 1 = cc in absurd (omega arith)
  check_unique (Checks.refused e) (Checks.mask_missed f c d) = let z : ◌≡◌ {A = ℕ} 0 1 = cc in absurd (omega arith)
  check_unique (Checks.consistent f c) (Checks.refused e) = let z : ◌≡◌ {A = ℕ} 0 1 = cc in absurd (omega arith)
  check_unique (Checks.consistent f c) (Checks.consistent f' c') = refl
  check_unique (Checks.consistent f c) (Checks.box_missed f' d) = absurd (consistent_misses (by_boxes c) d.misses)
  check_unique (Checks.consistent f c) (Checks.mask_missed f' c' d) = absurd (consistent_misses (by_masks c) d.misses)
  check_unique (Checks.box_missed f d) (Checks.refused e) = let z : ◌≡◌ {A = ℕ} 0 1 = cc in absurd (omega arith)
  check_unique (Checks.box_missed f d) (Checks.consistent f' c) = absurd (consistent_misses (by_boxes c) d.misses)
  check_unique (Checks.box_missed f d) (Checks.box_missed f' d') = rw (missed_arc d d', missed_node d d')
  check_unique (Checks.box_missed f d) (Checks.mask_missed f' c d') = absurd (consistent_misses c d.misses)
  check_unique (Checks.mask_missed f c d) (Checks.refused e) = let z : ◌≡◌ {A = ℕ} 0 1 = cc in absurd (omega arith)
  check_unique (Checks.mask_missed f c d) (Checks.consistent f' c') = absurd (consistent_misses (by_masks c') d.misses)
  check_unique (Checks.mask_missed f c d) (Checks.box_missed f' d') = absurd (consistent_misses c d'.misses)
  check_unique (Checks.mask_missed f c d) (Checks.mask_missed f' c' d') = rw (missed_arc d d', missed_node d d')

pub update_unique : {judged : Judged} {N : Net} {x y boxes : List ℤ} {m : ℕ} {R R' left left' : Rows} {reply reply' : Reply} {after after' : List ℤ}
    → Updates judged R R' N m x y boxes reply left after → Updates judged R R' N m x y boxes reply' left' after'
    → (reply ≡ reply') × (left ≡ left') × (after ≡ after')
update_unique (Updates.refused {r = r} e) (Updates.refused {r = r'} e') = let same : r ≡ r' = cc in (rw same, refl, refl)
update_unique (Updates.refused e) (Updates.updated f d) = let z : ◌≡◌ {A = ℕ} 0 1 = cc in absurd (omega arith)
update_unique (Updates.updated f d) (Updates.refused e) = let z : ◌≡◌ {A = ℕ} 0 1 = cc in absurd (omega arith)
update_unique (Updates.updated f d) (Updates.updated f' d') = (refl, refl, drawn_unique puts_box (λ e low high b c c' p q. updated_unique p q) d d')
