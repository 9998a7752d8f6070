use Rattle.std.proofs.Common.{rules, arith, ◌≤◌, get_or, w32, w64, SFits, to_z-of_z}
use Rattle.std.proofs.lemmas.Bool.Decides.{nat_tests}
use Rattle.scan.proofs.PieceLaws.{none_first}
use Rattle.scan.proofs.FieldLaws.{field_signed, field_unsigned, field_word}
use Rattle.scan.proofs.fields.take_field.Goals as goal
use Rattle.scan.proofs.fields.take_field.Goals.{in_default-via-then-form-lt1, in_default-via-else-form-lt1+then-form-lt65, in_default-via-else-form-lt1+else-form-lt65+else-form-lt88+else-form-lt91}

pub returns-in_err-read_natural-in-65-to-87 : goal.returns-in_err-read_natural-in-65-to-87
returns-in_err-read_natural-in-65-to-87 c =
    rw (c.from_residual.ensures, field_unsigned c.args.form.now c.args.s.now (omega arith) (omega arith), ← c.read_natural.ensures, c.in_err-read_natural-in-65-to-87.was)

pub returns-in_err-read_integer-in-88-to-90 : goal.returns-in_err-read_integer-in-88-to-90
returns-in_err-read_integer-in-88-to-90 c =
    rw (c.from_residual-in_err-read_integer-in-88-to-90.ensures, field_signed c.args.form.now c.args.s.now (omega arith) (omega arith), ← c.read_integer.ensures, c.in_err-read_integer-in-88-to-90.was)

pub returns-in_ok-read_natural-in-65-to-87 : goal.returns-in_ok-read_natural-in-65-to-87
returns-in_ok-read_natural-in-65-to-87 c =
    rw (field_unsigned c.args.form.now c.args.s.now (omega arith) (omega arith), ← c.read_natural.ensures, c.in_ok-read_natural-in-65-to-87.was, c.hold.ensures)

pub returns-in_ok-read_integer-in-88-to-90 : goal.returns-in_ok-read_integer-in-88-to-90
returns-in_ok-read_integer-in-88-to-90 c =
    let fits : SFits w32 c.hold_signed.result = search rules in
    let wide : SFits w64 c.in_ok-read_integer-in-88-to-90.field-0 = search rules in
    rw (field_signed c.args.form.now c.args.s.now (omega arith) (omega arith), ← c.read_integer.ensures, c.in_ok-read_integer-in-88-to-90.was, to_z-of_z fits, c.hold_signed.ensures, to_z-of_z wide)

pub returns-in_default : goal.returns-in_default
returns-in_default c =
    let word : 65 ≤ get_or c.args.form.now 0 0 → get_or c.args.form.now 0 0 ≤ 90 → ⊥ =
    λ h k. elim c.in_default.branch [
      | in_default-via-then-form-lt1 w ↦ grind (arith, nat_tests, none_first)
      | in_default-via-else-form-lt1+then-form-lt65 w ↦ omega arith
      | in_default-via-else-form-lt1+else-form-lt65+else-form-lt88+else-form-lt91 w ↦ omega arith
    ] in
    rw (c.then_some.ensures, c.eq.ensures, field_word c.args.form.now c.args.s.now word)
