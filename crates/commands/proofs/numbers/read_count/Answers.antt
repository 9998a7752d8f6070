-- `commands::numbers::read_count` meets its contract.
use Rattle.std.proofs.Common.{rules, arith, ◌≡◌, None, Some}
use Rattle.commands.proofs.NumberLaws.{count_misspelt, count_beyond, count_fits}
use Rattle.commands.proofs.numbers.read_count.Goals as goal

pub returns-in_err-ok_or : goal.returns-in_err-ok_or
returns-in_err-ok_or c =
    let none : c.read_natural.result ≡ None = search rules in
    let same = count_misspelt 4294967295 _ _ (omega arith) c.read_natural.ensures none in search rules

pub returns-in_err-try_from : goal.returns-in_err-try_from
returns-in_err-try_from c =
    let some : c.read_natural.result ≡ Some c.in_ok-ok_or.field-0 = search rules in
    let same = count_beyond 4294967295 _ _ (omega arith) c.read_natural.ensures _ some (omega (arith, c.in_err-try_from.ensures)) in search rules

pub returns : goal.returns
returns c =
    let some : c.read_natural.result ≡ Some c.in_ok-ok_or.field-0 = search rules in
    let same = count_fits 4294967295 _ _ (omega arith) c.read_natural.ensures _ some (omega (arith, c.in_ok-try_from.ensures.0)) in search rules
