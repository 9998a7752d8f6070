-- Rows serve the tests that are asked of m arcs, and then those of fewer.
use Prim.Native.Nat.{ℕ, ◌≤◌}
use native.Mathlib.Omega.{arith}
use mathlib.Core.Path.{◌≡◌, refl}
use mathlib.Core.Bool.{Bool, true, false}
use mathlib.Core.List.{List}
use lib.IntN.{ℤ}
use lib.ListN.{length}
use Rattle.rules.specs.declared.Asked.{Asked}
use Rattle.geometry.specs.Row.{Shaped}
use Rattle.passing.specs.Signs.{Signs}
use Rattle.geometry.proofs.RowLaws.{shaped_fewer}
use Rattle.std.specs.Prelude.{Option, Some, None}
use Rattle.passing.specs.declared.Place.{Place}
use Rattle.passing.specs.declared.Tests.{Tests}
use Rattle.passing.specs.Asking.{place_if, module_if, tests_toward, Told, Lent, BoxRoom, MaskRoom, Room}

boxes_less : (place : Option Place) (boxes : List ℤ) (m e : ℕ) → e ≤ m → BoxRoom place m boxes → BoxRoom place e boxes
boxes_less None boxes m e h r = tt
boxes_less (Some p) boxes m e h r = shaped_fewer h r

masks_less : (j : Option ℕ) (masks : List ℕ) (m e : ℕ) → e ≤ m → MaskRoom j m masks → MaskRoom j e masks
masks_less None masks m e h r = tt
masks_less (Some j) masks m e h r = (omega (arith, r.0), r.1, r.2)

pub room_less : (tests : Tests) (boxes : List ℤ) (masks : List ℕ) (m e : ℕ) → e ≤ m → Room tests m boxes masks → Room tests e boxes masks
room_less tests boxes masks m e h r = record {
  boxes_lent = boxes_less tests.place boxes m e h r.boxes_lent;
  masks_lent = masks_less tests.module_number masks m e h r.masks_lent;
}

-- what is asked is there
box_room : (b : Bool) (px py : ℤ) (m : ℕ) (boxes : List ℤ) → (b ≡ true → Shaped m boxes) → BoxRoom (place_if b px py) m boxes
box_room true px py m boxes h = h refl
box_room false px py m boxes h = tt

mask_room : (b : Bool) (j m : ℕ) (masks : List ℕ) → (b ≡ true → (m ≤ length masks) × (1 ≤ j) × (j ≤ 32)) → MaskRoom (module_if b j) m masks
mask_room true j m masks h = h refl
mask_room false j m masks h = tt

-- by what is lent, each node's place and module are told, and the rows serve the tests toward it
module _ {asked : Asked} {n m : ℕ} {G : Signs} (l : Lent asked n m G) (t : ℕ) (low : 1 ≤ t) (high : t ≤ n) where
  pub lent-told : Told asked G.x G.y G.modules t
  lent-told = record {
    low = low;
    x_long = λ h. omega (arith, l.x_long h);
    y_long = λ h. omega (arith, l.y_long h);
    modules_long = λ h. omega (arith, l.modules_long h);
  }

  pub lent_room : (asked.boxes ≡ true → Shaped m G.boxes) → Room (tests_toward asked G.x G.y G.modules t) m G.boxes G.masks
  lent_room shaped = record {
    boxes_lent = box_room asked.boxes _ _ m G.boxes shaped;
    masks_lent = mask_room asked.masks _ m G.masks (λ h. let j = l.numbers h t low high in (l.masks_long h, j.0, j.1));
  }
