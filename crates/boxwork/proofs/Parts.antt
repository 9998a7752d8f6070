-- What is asked, in parts: the boxes first, and then the masks.
use Prim.Native.Nat.{ℕ}
use mathlib.Core.Path.{◌≡◌, refl, sym, ◌∙◌}
use mathlib.Core.Bool.{Bool, true, false, false≢true, true≢false, ◌||◌}
use mathlib.Core.List.{List, []}
use lib.IntN.{ℤ}
use Rattle.rules.specs.Paper.{judged_reply, refusal}
use Rattle.rules.specs.declared.Asked.{Asked}
use Rattle.rules.specs.Judging.{Judged, fine}
use Rattle.std.specs.Prelude.{Err}
use Rattle.rules.specs.declared.Refusal.{Refusal}
use Rattle.walks.specs.Walk.{Net}
use Rattle.walks.specs.Rows.{Rows}
use Rattle.walks.specs.Through.{Consistent}
use Rattle.passing.specs.Signs.{Signs, signs, boxes_alone, box_signs}
use Rattle.passing.specs.Passing.{Keeps}
use Rattle.passing.specs.Asking.{Lent}
use Rattle.passing.specs.Lent.{signs_of}
use Rattle.passing.specs.declared.Signs.{Signs as SignsOf}
use Rattle.judging.proofs.StageLaws.{SignsLent}
use Rattle.boxwork.specs.Says.{Checks, boxes_of, masks_of}
use Rattle.boxwork.specs.Missing.{Missing, nowhere, first}

-- what keeps S(e) by all that is asked keeps it by the boxes, and by the masks
module _ {N : Net} {asked : Asked} {G : Signs} (c : Consistent N (Keeps asked G)) where
  pub by_boxes : Consistent N (Keeps (boxes_of asked) G)
  by_boxes = record { keeps = λ e t i. record { box = (c.keeps e t i).box; mask = λ h. absurd (false≢true h) } }

  pub by_masks : Consistent N (Keeps (masks_of asked) G)
  by_masks = record { keeps = λ e t i. record { box = λ h. absurd (false≢true h); mask = (c.keeps e t i).mask } }

-- and the other way round
pub by_both_lem : {N : Net} {asked : Asked} {G : Signs} → Consistent N (Keeps (boxes_of asked) G) → Consistent N (Keeps (masks_of asked) G) → Consistent N (Keeps asked G)
by_both_lem p q = record { keeps = λ e t i. record { box = (p.keeps e t i).box; mask = (q.keeps e t i).mask } }

-- ---- What is lent for all is lent for each

module _ {asked : Asked} {n m : ℕ} {G : Signs} (l : Lent asked n m G) where
  pub lent_boxes : Lent (boxes_of asked) n m G
  lent_boxes = record {
    x_long = l.x_long;
    y_long = l.y_long;
    boxes_long = l.boxes_long;
    modules_long = λ h. absurd (false≢true h);
    masks_long = λ h. absurd (false≢true h);
    numbers = λ h. absurd (false≢true h);
  }

  pub lent_masks : Lent (masks_of asked) n m G
  lent_masks = record {
    x_long = λ h. absurd (false≢true h);
    y_long = λ h. absurd (false≢true h);
    boxes_long = λ h. absurd (false≢true h);
    modules_long = l.modules_long;
    masks_long = l.masks_long;
    numbers = l.numbers;
  }

-- boxes alone, whatever other rows there are
pub lent_alone : {n m : ℕ} {R : Rows} {x y boxes : List ℤ} (modules masks : List ℕ) → SignsLent boxes_alone n m R (box_signs x y boxes) → Lent boxes_alone n m (signs x y boxes modules masks)
lent_alone modules masks l = record {
  x_long = λ h. (l.places h).x_long;
  y_long = λ h. (l.places h).y_long;
  boxes_long = λ h. (l.places h).boxes_long;
  modules_long = λ h. absurd (false≢true h);
  masks_long = λ h. absurd (false≢true h);
  numbers = λ h. absurd (false≢true h);
}

-- the signs of boxes alone
pub of_boxes_lem : (S : SignsOf) {x y boxes : List ℤ} → (S.nodes.x.now ≡ x) × (S.nodes.y.now ≡ y) → S.boxes.now ≡ boxes → (S.nodes.modules.now ≡ []) × (S.masks.now ≡ [])
    → signs_of S ≡ box_signs x y boxes
of_boxes_lem S p q r = rw (p.0, p.1, q, r.0, r.1) refl

-- ---- A look for misses

neither : (a b : Bool) → a || b ≡ false → (a ≡ true → ⊥) × (b ≡ true → ⊥)
neither true b e = absurd (true≢false e)
neither false b e = ((λ h. false≢true h), (λ h. false≢true (sym e ∙ h)))

module _ {N : Net} {asked : Asked} {G : Signs} where
  -- what is not asked misses nothing
  pub nothing-asked : asked.boxes || asked.masks ≡ false → Missing N asked G fine
  nothing-asked e =
      let n = neither asked.boxes asked.masks e in
      nowhere (record { keeps = λ e t i. record { box = λ h. absurd (n.0 h); mask = λ h. absurd (n.1 h) } })

  pub missing_fine : Missing N asked G fine → Consistent N (Keeps asked G)
  missing_fine (nowhere c) = c

module _ {judged : Judged} {N : Net} {asked : Asked} {G : Signs} (passed : judged ≡ fine) where
  -- the boxes miss a node
  pub boxes_missed : {r : Refusal} → Missing N (boxes_of asked) G (Err r) → Checks judged N asked G (refusal r)
  boxes_missed (first d) = Checks.box_missed passed d

  -- they miss none, and the masks decide
  pub masks_decide : {j : Judged} → Consistent N (Keeps (boxes_of asked) G) → Missing N (masks_of asked) G j → Checks judged N asked G (judged_reply j)
  masks_decide c (nowhere d) = Checks.consistent passed (by_both_lem c d)
  masks_decide c (first d) = Checks.mask_missed passed c d
