use Rattle.std.proofs.Common.{false, ◌≡◌, ◌∙◌, sym, eqb, length, bytes_eq}
use Rattle.std.proofs.lemmas.Result.{err_from_is_err_and}
use Rattle.scan.specs.Pieces.{first_field}
use Rattle.scan.specs.Line.{is_comment}
use Rattle.scan.proofs.LineLaws.{line_empty, line_comment, line_data, line_problem, line-none}
use Rattle.scan.proofs.line.read_line.Goals as goal
use Rattle.scan.proofs.line.read_line.Goals.{After-eq, After-eq-2, After-eq-3}

pub returns-then-is_empty : goal.returns-then-is_empty
returns-then-is_empty c = let empty = c.if-is_empty.ensures in sym (line_empty c.args.problem.now c.args.data.now c.args.s.now (sym empty))

-- what the tests found
some : (c : After-eq) → eqb (length c.args.s.now) 0 ≡ false
some c = let empty = c.if-is_empty.ensures in sym empty

comment : (c : After-eq) → is_comment c.args.s.now ≡ c.eq.result
comment c = rw (c.eq.ensures, c.first_field-letter.ensures, c.as_slice.ensures)

data_letter : (c : After-eq-2) → bytes_eq (first_field c.args.s.now) (first_field c.args.data.now) ≡ c.eq-2.result
data_letter c = rw (c.eq-2.ensures, c.first_field-letter.ensures, c.first_field.ensures)

problem_letter : (c : After-eq-3) → bytes_eq (first_field c.args.s.now) (first_field c.args.problem.now) ≡ c.eq-3.result
problem_letter c = rw (c.eq-3.ensures, c.first_field-letter.ensures, c.first_field-2.ensures)

pub returns-then-eq : goal.returns-then-eq
returns-then-eq c =
    let a = (goal.at.returns-then-eq c).After-eq in
    sym (line_comment _ _ _ (some a) (comment a ∙ c.if-eq.true))

pub returns-in_err-read_fields : goal.returns-in_err-read_fields
returns-in_err-read_fields c =
    let a = goal.at.returns-in_err-read_fields c in
    let returned = err_from_is_err_and c.from_residual.result c.from_residual.ensures.1 in
    rw (returned.1, returned.2, line_data c.args.problem.now _ _ (some a.After-eq) (comment a.After-eq ∙ c.if-eq.false) (data_letter a.After-eq-2 ∙ c.if-eq-2.true), ← c.read_fields.ensures, c.in_err-read_fields.was)

pub returns-then-eq-2 : goal.returns-then-eq-2
returns-then-eq-2 c =
    let a = goal.at.returns-then-eq-2 c in
    rw (line_data c.args.problem.now _ _ (some a.After-eq) (comment a.After-eq ∙ c.if-eq.false) (data_letter a.After-eq-2 ∙ c.if-eq-2.true), ← c.read_fields.ensures, c.in_ok-read_fields.was)

pub returns-in_err-read_fields-2 : goal.returns-in_err-read_fields-2
returns-in_err-read_fields-2 c =
    let a = goal.at.returns-in_err-read_fields-2 c in
    let returned = err_from_is_err_and c.from_residual-in_err-read_fields-2.result c.from_residual-in_err-read_fields-2.ensures.1 in
    rw (returned.1, returned.2, line_problem _ _ _ (some a.After-eq) (comment a.After-eq ∙ c.if-eq.false) (data_letter a.After-eq-2 ∙ c.if-eq-2.false) (problem_letter a.After-eq-3 ∙ c.if-eq-3.true), ← c.read_fields-then-eq-3.ensures, c.in_err-read_fields-2.was)

pub returns-then-eq-3 : goal.returns-then-eq-3
returns-then-eq-3 c =
    let a = goal.at.returns-then-eq-3 c in
    rw (line_problem _ _ _ (some a.After-eq) (comment a.After-eq ∙ c.if-eq.false) (data_letter a.After-eq-2 ∙ c.if-eq-2.false) (problem_letter a.After-eq-3 ∙ c.if-eq-3.true), ← c.read_fields-then-eq-3.ensures, c.in_ok-read_fields-2.was)

pub returns : goal.returns
returns c =
    let a = goal.at.returns c in
    sym (line-none _ _ _ (some a.After-eq) (comment a.After-eq ∙ c.if-eq.false) (data_letter a.After-eq-2 ∙ c.if-eq-2.false) (problem_letter a.After-eq-3 ∙ c.if-eq-3.false))
