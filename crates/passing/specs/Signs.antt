-- What may be lent beside a network, by which a search tells where an arc leads: coordinates and boxes, modules and masks.
use Rattle.std.specs.Prelude.{true, false, List, [], ℕ, ℤ}
use Rattle.rules.specs.declared.Asked.{Asked}

-- A node has a place and a module, an arc has a box and a mask. A call reads only those that it is asked to go by.
pub record Signs : Type 0 where
  pub x : List ℤ
  pub y : List ℤ
  pub boxes : List ℤ
  pub modules : List ℕ
  pub masks : List ℕ

abbrev pub signs : List ℤ → List ℤ → List ℤ → List ℕ → List ℕ → Signs
signs x y boxes modules masks = record { x = x; y = y; boxes = boxes; modules = modules; masks = masks }

-- ---- What a call may be asked to go by

-- nothing, as a plain search
abbrev pub nothing : Asked
nothing = record { boxes = false; masks = false }

-- boxes alone, as in 01
abbrev pub boxes_alone : Asked
boxes_alone = record { boxes = true; masks = false }

abbrev pub masks_alone : Asked
masks_alone = record { boxes = false; masks = true }

-- where no signs are lent, and where coordinates and boxes are
abbrev pub no_signs : Signs
no_signs = signs [] [] [] [] []

abbrev pub box_signs : List ℤ → List ℤ → List ℤ → Signs
box_signs x y boxes = signs x y boxes [] []
