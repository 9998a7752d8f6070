use Rattle.std.proofs.Common.{arith, ◌∙◌, ap, Some}
use Rattle.scan.specs.Held.{held_natural}
use Rattle.scan.proofs.NumberLaws.{digits_end, digits_step, held_alike}
use Rattle.scan.proofs.numbers.read_digits.Goals as goal

pub returns-then-not-is_ascii_digit : goal.returns-then-not-is_ascii_digit
unfolding held_natural
returns-then-not-is_ascii_digit c =
    let digit = c.if-not-is_ascii_digit.ensures in
    rw (c.loop-b.invariant.1, digits_step c.loop-b.v c.args.s.now c.loop-b.b-index c.loop-b-test.true, ← digit.value)

pub loop-b-preserved : goal.loop-b-preserved
loop-b-preserved c =
    let digit = c.if-not-is_ascii_digit.ensures in
    let on = rw (← digit.value) at (digits_step c.loop-b.v c.args.s.now c.loop-b.b-index c.loop-b-test.true) in
    (omega arith, c.loop-b.invariant.1 ∙ ap held_natural on ∙ held_alike _ _ _ (omega arith))

pub returns : goal.returns
unfolding held_natural
returns c = rw (c.loop-b.invariant.1, digits_end c.loop-b.v c.args.s.now c.loop-b.b-index c.loop-b-test.false) (ap Some (omega arith))
