-- `geometry::sides::Sides::holds` meets its contract: each axis of the box is tested by itself.
use Rattle.std.proofs.Common.{rules}
use Rattle.geometry.proofs.Wrapping.{span_across, span_upward, two_axes}
use Rattle.geometry.proofs.sides.Sides.holds.Goals as goal

pub between-requires : goal.between-requires
between-requires c = search (rules, span_across c.requires)

pub between-requires-2 : goal.between-requires-2
between-requires-2 c = search (rules, span_upward c.requires)

pub returns : goal.returns
returns c = rw (c.between.ensures, c.between-2.ensures) (search (rules, two_axes))
