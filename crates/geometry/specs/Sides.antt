-- The box of four sides.
use Rattle.geometry.specs.Box.{Box}
use Rattle.geometry.specs.declared.sides.Sides.{Sides}

abbrev pub as_box : Sides → Box
as_box s = record { left = s.left; right = s.right; low = s.low; high = s.high }
