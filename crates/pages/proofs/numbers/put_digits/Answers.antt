-- `pages::numbers::put_digits` meets its contract.
use mathlib.Core.Path.{sym, ◌∙◌}
use lib.Seq.{length-take-le, take_at}
use native.Mathlib.Omega.{arith}
use Rattle.pages.proofs.DecimalLaws.{digits_decimal, digits_length}
use Rattle.pages.proofs.numbers.put_digits.Goals as goal

pub slice_bounds-copy_from_slice-end : goal.slice_bounds-copy_from_slice-end
slice_bounds-copy_from_slice-end c =
    let d = c.decimal-end.ensures in
    let long = digits_length _ _ _ (omega arith) d.digits d.len in
    omega (arith, long)

pub slice_bounds-copy_from_slice-end-2 : goal.slice_bounds-copy_from_slice-end-2
slice_bounds-copy_from_slice-end-2 c =
    let d = c.decimal-end.ensures in
    let long = digits_length _ _ _ (omega arith) d.digits d.len in
    sym (length-take-le _ _ (omega (arith, long)))

pub copy_from_slice-requires : goal.copy_from_slice-requires
copy_from_slice-requires c =
    let d = c.decimal-end.ensures in
    let long = digits_length _ _ _ (omega arith) d.digits d.len in
    length-take-le _ _ (omega (arith, long)) ∙ sym (length-take-le _ _ (omega arith))

pub returns-clause-spelt : goal.returns-clause-spelt
returns-clause-spelt c =
    let d = c.decimal-end.ensures in
    rw c.copy_from_slice.ensures.after (take_at _ _ _ (length-take-le _ _ (omega arith)) ∙ (d.digits ∙ digits_decimal _ _ d.len))

pub returns-clause-upper_bound : goal.returns-clause-upper_bound
returns-clause-upper_bound c = let d = c.decimal-end.ensures in digits_length _ _ _ (omega arith) d.digits d.len
