-- `geometry::sides::between` meets its contract.
use Rattle.std.proofs.Common.{◌≡◌, rules}
use Rattle.geometry.specs.Shifted.{shifted}
use Rattle.geometry.proofs.Wrapping.{axis_wraps}
use Rattle.geometry.proofs.sides.between.Goals as goal

pub returns : goal.returns
returns c =
    let a = c.args in
    let start : c.shift-start.result ≡ shifted a.from = search rules in
    let place : c.shift.result ≡ shifted a.z = search rules in
    let end : c.shift-2.result ≡ shifted a.to = search rules in
    rw (start, place, end) (axis_wraps a.from a.to a.z c.requires c.ranges.from.sfits c.ranges.to.sfits c.ranges.z.sfits)
