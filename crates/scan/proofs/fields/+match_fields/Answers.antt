-- The proof of the cycle of calls {match_fields}: each call has a field of the form less to read.
use Rattle.std.proofs.Common.{ℕ, ◌≡◌, ◌+◌, Some, None, arith}
use Rattle.std.proofs.lemmas.Result.{err_from_is_err_and}
use Rattle.scan.specs.Pieces.{fields_of}
use Rattle.scan.specs.Fields.{on_field, matched}
use Rattle.scan.specs.Held.{held, held_z, held_fields}
use Rattle.scan.proofs.FieldLaws.{none_default}
use Rattle.scan.proofs.MatchingLaws.{later, fields_step, fields_end, fields_extra, fields_missing, fields_more}
use Rattle.scan.proofs.fields.+match_fields.Goals as goal
use Rattle.scan.proofs.fields.+match_fields.Goals.{After-take_field, in-true-true+in_ok-later-in-true-true, in-false-false}

-- what the fields hold, once the first was read
fields : (t : ℕ) (c : After-take_field t)
    → held_fields (matched (fields_of c.args.form.now) c.args.column (fields_of c.args.s.now))
    ≡ on_field c.take_field.result c.args.column (held_fields (matched (later c.args.form.now c.first_at-d.result) (c.args.column + (c.first_at-e.result + 1)) (later c.args.s.now c.first_at-e.result)))
fields t c = fields_step _ _ _ _ _ _ c.first_at-d.ensures.0 c.first_at-e.ensures.0 c.take_field.ensures

pub returns-in_err-value : goal.returns-in_err-value
unfolding on_field
returns-in_err-value t c =
    let returned = err_from_is_err_and c.from_residual.result c.from_residual.ensures.1 in
    let misspelt : c.take_field.result ≡ None = grind arith in
    let fault = c.in_err-value.ensures in
    let told = rw misspelt at fault.value in
    rw (returned.1, returned.2, fields t (goal.at.returns-in_err-value t c).After-take_field, misspelt) (cc)

pub returns-in_err-later-in-true-true : goal.returns-in_err-later-in-true-true
unfolding on_field
returns-in_err-later-in-true-true t c =
    let returned = err_from_is_err_and c.from_residual-in_err-later-in-true-true.result c.from_residual-in_err-later-in-true-true.ensures.1 in
    let first : c.take_field.result ≡ Some c.in_ok-value.value = grind arith in
    rw (returned.1, returned.2, fields t (goal.at.returns-in_err-later-in-true-true t c).After-take_field, first)
    (rw (fields_more c.args.form.now c.args.s.now c.args.column _ _ _ c.match_fields.ensures c.in-true-true.is-0 c.in-true-true.is-1, c.in_err-later-in-true-true.was))

pub returns-in-true-false : goal.returns-in-true-false
unfolding on_field held_fields
returns-in-true-false t c =
    let first : c.take_field.result ≡ Some c.in_ok-value.value = grind arith in
    rw (fields t (goal.at.returns-in-true-false t c).After-take_field, first, fields_missing _ _ _ _ _ c.in-true-false.is-0 c.in-true-false.is-1)

pub returns-in-false-true : goal.returns-in-false-true
unfolding on_field held_fields
returns-in-false-true t c =
    let first : c.take_field.result ≡ Some c.in_ok-value.value = grind arith in
    rw (fields t (goal.at.returns-in-false-true t c).After-take_field, first, fields_extra _ _ _ _ _ c.in-false-true.is-0 c.in-false-true.is-1)

pub returns : goal.returns
unfolding on_field held_fields held held_z
returns t c =
    let first : c.take_field.result ≡ Some c.in_ok-value.value = grind arith in
    rw (fields t (goal.at.returns t c).After-take_field, first, c.put_before.ensures)
    (elim c.if-d-form.branch [
      | in-true-true+in_ok-later-in-true-true w ↦
          rw (fields_more c.args.form.now c.args.s.now c.args.column _ _ _ w.match_fields.ensures w.in-true-true.is-0 w.in-true-true.is-1, w.in_ok-later-in-true-true.was, w.later-is)
      | in-false-false w ↦
          rw (fields_end c.args.form.now c.args.s.now c.args.column _ _ w.in-false-false.is-0 w.in-false-false.is-1, w.later-is, none_default w.default-later.result w.default-later.ensures)
    ])
