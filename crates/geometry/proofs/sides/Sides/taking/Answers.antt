-- `geometry::sides::Sides::taking` meets its contract.
use Rattle.std.proofs.Common.{◌≡◌, rules, w32, to_z, of_z}
use Rattle.std.specs.Int.{int_min, int_max}
use Rattle.geometry.specs.Hull.{taken}
use Rattle.geometry.proofs.Order.{min_smaller, max_larger}
use Rattle.geometry.proofs.sides.Sides.taking.Goals as goal

pub returns-then-self : goal.returns-then-self
unfolding taken
returns-then-self c =
    let a = c.args in
    let b = c.args.self in
    let left : to_z w32 (of_z w32 c.min.result) ≡ int_min b.left a.x = search rules in
    let right : to_z w32 (of_z w32 c.max.result) ≡ int_max b.right a.x = search rules in
    let low : to_z w32 (of_z w32 c.min-then-self.result) ≡ int_min b.low a.y = search rules in
    let high : to_z w32 (of_z w32 c.max-then-self.result) ≡ int_max b.high a.y = search rules in
    rw (left, right, low, high, min_smaller b.left a.x, max_larger b.right a.x, min_smaller b.low a.y, max_larger b.high a.y) (search rules)
