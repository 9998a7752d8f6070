-- Coordinates and boxes in rows. Nodes and arcs are numbered from 1; boxes are one row of four numbers an arc, in
-- order: left, right, low, high.
use Rattle.std.specs.Prelude.{ℕ, ◌+◌, ◌-◌, ◌*◌, ◌≤◌, List, length, ℤ, pos, slice_index_or, slice_set}
use Rattle.geometry.specs.Box.{Box, WellShaped}

-- what stands at a place of a row, counted from 0
abbrev pub number : List ℤ → ℕ → ℤ
number row i = slice_index_or row i (pos 0)

-- the coordinate of a node
abbrev pub coordinate : List ℤ → ℕ → ℤ
coordinate row node = number row (node - 1)

-- the box whose four numbers start at a place, and the row with a box stored there
abbrev pub box_from : List ℤ → ℕ → Box
box_from row i = record { left = number row i; right = number row (i + 1); low = number row (i + 2); high = number row (i + 3) }

abbrev pub put_from : List ℤ → ℕ → Box → List ℤ
put_from row i b = slice_set (slice_set (slice_set (slice_set row i b.left) (i + 1) b.right) (i + 2) b.low) (i + 3) b.high

-- the box of an arc, and the row with another box for it
abbrev pub box_of : List ℤ → ℕ → Box
box_of row arc = box_from row (4 * (arc - 1))

abbrev pub with_box : List ℤ → ℕ → Box → List ℤ
with_box row arc b = put_from row (4 * (arc - 1)) b

-- the row holds the boxes of the arcs 1..m, and each is well shaped
pub record Shaped (m : ℕ) (row : List ℤ) : Type 0 where
  pub long : 4 * m ≤ length row
  pub each : (arc : ℕ) → 1 ≤ arc → arc ≤ m → WellShaped (box_of row arc)
