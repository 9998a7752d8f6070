-- Boxes made of others: that of one place, the hull of two, a box grown by a place, and one that may be the mark.
use Rattle.std.specs.Prelude.{cond, ℤ, int_le}
use Rattle.geometry.specs.Box.{Box}

unfoldable pub smaller : ℤ → ℤ → ℤ
smaller a b = cond (int_le a b) a b

unfoldable pub larger : ℤ → ℤ → ℤ
larger a b = cond (int_le a b) b a

-- the box of one place
abbrev pub place_box : ℤ → ℤ → Box
place_box x y = record { left = x; right = x; low = y; high = y }

-- the hull of two boxes
abbrev pub hull : Box → Box → Box
hull b c = record {
  left = smaller b.left c.left;
  right = larger b.right c.right;
  low = smaller b.low c.low;
  high = larger b.high c.high;
}

-- a box grown by a place
abbrev pub grown : Box → ℤ → ℤ → Box
grown b x y = hull b (place_box x y)

-- a box, or the mark, that takes in a place: the mark becomes the place's box
unfoldable pub taken : Box → ℤ → ℤ → Box
taken b x y = cond (int_le b.left b.right) (grown b x y) (place_box x y)
