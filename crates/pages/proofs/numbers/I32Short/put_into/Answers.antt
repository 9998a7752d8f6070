-- `i32::put_into` meets its contract.
use Prim.Native.Nat.{ℕ}
use mathlib.Core.Path.{◌≡◌, ap, ◌∙◌}
use mathlib.Core.List.{List, [], ◌∷◌}
use native.Mathlib.Omega.{arith}
use lib.ListN.{length, take}
use mir.Syntax.{w32}
use mir.Facts.{to_z-of_z}
use Rattle.std.proofs.Common.{slice_set, length-set}
use Rattle.scan.proofs.DecimalLaws.{decimal_long}
use Rattle.pages.proofs.DecimalLaws.{whole_minus, whole_plus, whole_long}
use Rattle.pages.proofs.FrontLaws.{put_front, room_after, take_set_first}
use Rattle.pages.proofs.numbers.I32Short.put_into.Goals as goal

pub put_digits-requires : goal.put_digits-requires
put_digits-requires c =
    let long = decimal_long 9 c.unsigned_abs-size.result (omega arith) in
    room_after c.args.bytes.now _ _ (omega (arith, long))

pub returns-then-self-lt0-clause-spelt : goal.returns-then-self-lt0-clause-spelt
returns-then-self-lt0-clause-spelt c =
    let plain = to_z-of_z {w = w32} c.ranges.self in
    let row = slice_set c.args.bytes.now 0 45 in
    let same = length-set c.args.bytes.now 0 45 in
    let first : take 1 row ≡ 45 ∷ [] = take_set_first c.args.bytes.now 45 (omega arith) in
    put_front 1 _ _ row _ (omega (arith, same)) _ c.put_digits.ensures.upper_bound c.put_digits.ensures.spelt
    ∙ (rw first (whole_minus _ _ (rw plain at c.if-self-lt0.true) (rw plain at c.unsigned_abs-size.ensures.value)))

pub returns-then-self-lt0-clause-upper_bound : goal.returns-then-self-lt0-clause-upper_bound
returns-then-self-lt0-clause-upper_bound c =
    let plain = to_z-of_z {w = w32} c.ranges.self in
    let minus = whole_minus c.args.self _ (rw plain at c.if-self-lt0.true) (rw plain at c.unsigned_abs-size.ensures.value) in
    (let long = ap (λ (t : List ℕ). length t) minus in omega (arith, long), whole_long _ c.ranges.self)

pub put_digits-requires-2 : goal.put_digits-requires-2
put_digits-requires-2 c = let long = decimal_long 9 c.unsigned_abs-size.result (omega arith) in omega (arith, long)

pub returns-clause-spelt : goal.returns-clause-spelt
returns-clause-spelt c =
    let plain = to_z-of_z {w = w32} c.ranges.self in
    c.put_digits-2.ensures.spelt ∙ whole_plus _ _ (rw plain at c.if-self-lt0.false) (rw plain at c.unsigned_abs-size.ensures.value)

pub returns-clause-upper_bound : goal.returns-clause-upper_bound
returns-clause-upper_bound c =
    let plain = to_z-of_z {w = w32} c.ranges.self in
    let plus = whole_plus c.args.self _ (rw plain at c.if-self-lt0.false) (rw plain at c.unsigned_abs-size.ensures.value) in
    (c.put_digits-2.ensures.upper_bound ∙ ap (λ (t : List ℕ). length t) plus, whole_long _ c.ranges.self)
