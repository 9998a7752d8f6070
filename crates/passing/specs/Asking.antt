-- The tests that the code asks of an arc that it looks at.
use Rattle.std.specs.Prelude.{ℕ, ◌*◌, ◌≤◌, ◌≡◌, Bool, true, false, ◌&&◌, List, ℤ, length, Option, Some, None}
use Rattle.rules.specs.declared.Asked.{Asked}
use Rattle.geometry.specs.Box.{holds_b}
use Rattle.geometry.specs.Row.{box_of, coordinate, Shaped}
use Rattle.masks.specs.Mask.{has_b}
use Rattle.walks.specs.Rows.{at, is_open}
use Rattle.passing.specs.Signs.{Signs}
use Rattle.passing.specs.declared.Place.{Place}
use Rattle.passing.specs.declared.Tests.{Tests}

-- ---- What is asked toward node t

abbrev pub place_if : Bool → ℤ → ℤ → Option Place
place_if true px py = Some (record { x = px; y = py })
place_if false px py = None

abbrev pub module_if : Bool → ℕ → Option ℕ
module_if true j = Some j
module_if false j = None

abbrev pub tests_toward : Asked → List ℤ → List ℤ → List ℕ → ℕ → Tests
tests_toward asked x y modules t = record { place = place_if asked.boxes (coordinate x t) (coordinate y t); module_number = module_if asked.masks (at modules t) }

-- nothing is asked
abbrev pub no_tests : Tests
no_tests = record { place = None; module_number = None }

-- node t has a place and a module, where they are asked
pub record Told (asked : Asked) (x y : List ℤ) (modules : List ℕ) (t : ℕ) : Type 0 where
  pub low : 1 ≤ t
  pub x_long : asked.boxes ≡ true → t ≤ length x
  pub y_long : asked.boxes ≡ true → t ≤ length y
  pub modules_long : asked.masks ≡ true → t ≤ length modules

-- what is asked is lent, for n nodes and m arcs: rows that are long enough, and modules from 1 to 32
pub record Lent (asked : Asked) (n m : ℕ) (G : Signs) : Type 0 where
  pub x_long : asked.boxes ≡ true → n ≤ length G.x
  pub y_long : asked.boxes ≡ true → n ≤ length G.y
  pub boxes_long : asked.boxes ≡ true → 4 * m ≤ length G.boxes
  pub modules_long : asked.masks ≡ true → n ≤ length G.modules
  pub masks_long : asked.masks ≡ true → m ≤ length G.masks
  pub numbers : asked.masks ≡ true → (t : ℕ) → 1 ≤ t → t ≤ n → (1 ≤ at G.modules t) × (at G.modules t ≤ 32)

-- ---- What an arc answers

abbrev pub held_b : Option Place → List ℤ → ℕ → Bool
held_b None boxes e = true
held_b (Some p) boxes e = holds_b (box_of boxes e) p.x p.y

abbrev pub lit_b : Option ℕ → List ℕ → ℕ → Bool
lit_b None masks e = true
lit_b (Some j) masks e = has_b (at masks e) j

-- an arc may be used: its box holds the place and its mask has the module, where these are asked, and it is open
abbrev pub keeps : Tests → List ℕ → List ℤ → List ℕ → ℕ → Bool
keeps tests closures boxes masks e = held_b tests.place boxes e && (lit_b tests.module_number masks e && is_open closures e)

-- ---- Room for what is asked

-- where boxes are asked, the row holds those of m arcs, well shaped
abbrev pub BoxRoom : Option Place → ℕ → List ℤ → Type 0
BoxRoom None m boxes = Unit
BoxRoom (Some p) m boxes = Shaped m boxes

-- where masks are asked, the row holds those of m arcs, and the module is one
abbrev pub MaskRoom : Option ℕ → ℕ → List ℕ → Type 0
MaskRoom None m masks = Unit
MaskRoom (Some j) m masks = (m ≤ length masks) × (1 ≤ j) × (j ≤ 32)

pub record Room (tests : Tests) (m : ℕ) (boxes : List ℤ) (masks : List ℕ) : Type 0 where
  pub boxes_lent : BoxRoom tests.place m boxes
  pub masks_lent : MaskRoom tests.module_number m masks
