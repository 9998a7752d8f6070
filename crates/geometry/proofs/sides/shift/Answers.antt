-- `geometry::sides::shift` meets its contract.
use Rattle.std.proofs.Common.{nat_abs, ap}
use Rattle.geometry.proofs.Wrapping.{sum_read}
use Rattle.geometry.proofs.sides.shift.Goals as goal

pub returns : goal.returns
returns c = ap nat_abs (sum_read c.args.z c.ranges.z)
