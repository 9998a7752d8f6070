-- Boxes: what a box holds, when it is well shaped, and the smallest box around a set of places.
use Rattle.std.specs.Prelude.{◌≡◌, Bool, ◌&&◌, ◌||◌, ℤ, pos, ◌≤ℤ◌, int_le}
use Rattle.rules.specs.Limits.{least_coordinate, most_coordinate}

pub record Box : Type 0 where
  pub left : ℤ
  pub right : ℤ
  pub low : ℤ
  pub high : ℤ

-- A box holds a place when left <= x <= right and low <= y <= high.
pub record Holds (b : Box) (x y : ℤ) : Type 0 where
  pub west : b.left ≤ℤ x
  pub east : x ≤ℤ b.right
  pub south : b.low ≤ℤ y
  pub north : y ≤ℤ b.high

-- Coordinates run from -1,000,000 to 1,000,000, both ends included.
pub record Within (z : ℤ) : Type 0 where
  pub above : least_coordinate ≤ℤ z
  pub below : z ≤ℤ most_coordinate

-- no side is reversed
pub record Upright (b : Box) : Type 0 where
  pub across : b.left ≤ℤ b.right
  pub upward : b.low ≤ℤ b.high

-- and all four are within coordinate limits
pub record Sided (b : Box) : Type 0 where
  pub upright : Upright b
  pub left_in : Within b.left
  pub right_in : Within b.right
  pub low_in : Within b.low
  pub high_in : Within b.high

-- Left 1, right 0, low 1, high 0 means "holds nothing".
abbrev pub mark : Box
mark = record { left = pos 1; right = pos 0; low = pos 1; high = pos 0 }

-- A box is well shaped when left <= right, low <= high and all four are within coordinate limits; or it is the mark, the only box
-- with reversed sides which counts as well shaped.
pub data WellShaped (b : Box) : Type 0 where
  sides : Sided b → WellShaped b
  nothing : b ≡ mark → WellShaped b

-- every place that b holds, c holds
abbrev pub Encloses : Box → Box → Type 0
Encloses c b = (x y : ℤ) → Holds b x y → Holds c x y

-- b is the smallest box that holds the places P: it holds them all, and every box that holds them all encloses it
pub record Smallest (P : ℤ → ℤ → Type 0) (b : Box) : Type 0 where
  pub holds : (x y : ℤ) → P x y → Holds b x y
  pub least : (c : Box) → ((x y : ℤ) → P x y → Holds c x y) → Encloses c b

-- ---- The same as tests

abbrev pub holds_b : Box → ℤ → ℤ → Bool
holds_b b x y = int_le b.left x && int_le x b.right && int_le b.low y && int_le y b.high

abbrev pub within_b : ℤ → Bool
within_b z = int_le least_coordinate z && int_le z most_coordinate

-- two sides are within limits and not reversed
abbrev pub sides_b : ℤ → ℤ → Bool
sides_b a b = int_le least_coordinate a && int_le a b && int_le b most_coordinate

-- or are those of the mark
abbrev pub same_b : ℤ → ℤ → Bool
same_b a b = int_le a b && int_le b a

abbrev pub no_sides_b : ℤ → ℤ → Bool
no_sides_b a b = same_b a (pos 1) && same_b b (pos 0)

abbrev pub well_shaped_b : Box → Bool
well_shaped_b b = sides_b b.left b.right && sides_b b.low b.high || no_sides_b b.left b.right && no_sides_b b.low b.high
