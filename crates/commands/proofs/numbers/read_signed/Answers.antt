-- `commands::numbers::read_signed` meets its contract.
use Rattle.std.proofs.Common.{rules, ◌≡◌, None, Some, ◌∙◌}
use mir.Syntax.{w32}
use mir.Val.{SFits}
use mir.Facts.{to_z-of_z}
use Rattle.commands.proofs.NumberLaws.{signed_misspelt, signed_is, held_back, signed_within, signed_beyond}
use Rattle.commands.proofs.numbers.read_signed.Goals as goal

pub returns-in_err-ok_or : goal.returns-in_err-ok_or
returns-in_err-ok_or c =
    let none : c.read_integer.result ≡ None = search rules in
    let same = signed_misspelt _ _ c.read_integer.ensures none in search rules

pub returns-in_err-try_from : goal.returns-in_err-try_from
returns-in_err-try_from c =
    let some : c.read_integer.result ≡ Some c.in_ok-ok_or.field-0 = search rules in
    let back = held_back _ _ _ c.read_integer.ensures some in
    let same = signed_beyond _ (rw back at c.in_err-try_from.ensures) ∙ signed_is _ _ c.read_integer.ensures _ some in search rules

pub returns : goal.returns
returns c =
    let some : c.read_integer.result ≡ Some c.in_ok-ok_or.field-0 = search rules in
    let back = held_back _ _ _ c.read_integer.ensures some in
    let fits : SFits w32 c.in_ok-ok_or.field-0 = rw back at c.in_ok-try_from.ensures.0 in
    let same : c.in_ok-try_from.field-0 ≡ c.in_ok-ok_or.field-0 = rw back at c.in_ok-try_from.ensures.1 in
    rw (same, to_z-of_z fits) (signed_within _ fits ∙ signed_is _ _ c.read_integer.ensures _ some)
