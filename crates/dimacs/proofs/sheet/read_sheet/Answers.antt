use Rattle.std.proofs.Common.{◌≡◌, ◌∙◌, sym, ap, take, Ok, arith}
use Rattle.std.proofs.lemmas.Result.{err_from_is_err_and}
use Rattle.scan.specs.Left.{pieces_left}
use Rattle.scan.proofs.FieldLaws.{none_default}
use Rattle.dimacs.specs.Formats.{rules_of}
use Rattle.dimacs.specs.Judgement.{numbers_of, announced}
use Rattle.dimacs.specs.Texts.{read, on_judged, read_text}
use Rattle.dimacs.proofs.Reading.{Turn, going_start, fair, fault_short, fault_out, comment_on, problem_out, problem_on, data_out, data_low, data_room, data_place, data_on, text_end}
use Rattle.dimacs.proofs.sheet.read_sheet.Goals as goal
use Rattle.dimacs.proofs.sheet.read_sheet.Goals.{After-line, After-judge_end, in-Ok-Comment, in-Ok-Problem+in_ok-judge_problem-in-Ok-Problem, in-Ok-Data+in_ok-judge_data-in-Ok-Data}

pub loop-s-init : goal.loop-s-init
loop-s-init c = rw (c.into_iter-s-iterator.ensures.into_iter_gives, c.pieces_of-s-items.ensures) (going_start c.args.format c.args.text.now c.requires.0 _ (none_default _ c.default-lines.ensures))

-- a line, at any goal after it
turn : (c : After-line)
    → Turn c.args.format c.args.text.now c.loop-s.head c.loop-s.taken c.loop-s.lines (pieces_left c.loop-s.s-iterator) (pieces_left c.next.new.self) c.loop-s.line c.in-Some.s.now c.line.result
turn c = let some = c.in-Some.ensures in record { ok = c.requires.1; going = c.loop-s.invariant; first = some.steps; held_line_lem = c.line.ensures }

rules_is : (c : After-line) → c.rules-rules.result ≡ rules_of c.args.format (numbers_of c.loop-s.head)
rules_is c = c.rules-rules.ensures ∙ ap (rules_of c.args.format) c.numbers.ensures

pub refusal_of-requires : goal.refusal_of-requires
refusal_of-requires c = fault_short _ _ _ _ _ _ _ _ _ _ (turn (goal.at.refusal_of-requires c).After-line) _ c.in-Err.is

pub returns-in-Err : goal.returns-in-Err
returns-in-Err c = rw c.refusal_of.ensures (sym (fault_out _ _ _ _ _ _ _ _ _ _ (turn (goal.at.returns-in-Err c).After-line) _ c.in-Err.is))

pub returns-in_err-judge_problem-in-Ok-Problem : goal.returns-in_err-judge_problem-in-Ok-Problem
returns-in_err-judge_problem-in-Ok-Problem c =
    let a = (goal.at.returns-in_err-judge_problem-in-Ok-Problem c).After-line in
    let returned = err_from_is_err_and c.from_residual.result c.from_residual.ensures.1 in
    rw (returned.1, returned.2)
    (sym (problem_out _ _ _ _ _ _ _ _ _ _ (turn a) _ _ (rw (rules_is a) at c.judge_problem.ensures) (c.in-Ok-Problem.is ∙ ap Ok c.in-Ok-Problem.field-0-is) _ c.in_err-judge_problem-in-Ok-Problem.was))

pub judge_data-requires : goal.judge_data-requires
judge_data-requires c = let a = (goal.at.judge_data-requires c).After-line in rw (rules_is a) (fair _ _ _ _ _ _ _ _ _ _ (turn a))

pub returns-in_err-judge_data-in-Ok-Data : goal.returns-in_err-judge_data-in-Ok-Data
returns-in_err-judge_data-in-Ok-Data c =
    let a = (goal.at.returns-in_err-judge_data-in-Ok-Data c).After-line in
    let returned = err_from_is_err_and c.from_residual-in_err-judge_data-in-Ok-Data.result c.from_residual-in_err-judge_data-in-Ok-Data.ensures.1 in
    rw (returned.1, returned.2) (sym (data_out _ _ _ _ _ _ _ _ _ _ (turn a) _ _ (rw (rules_is a) at c.judge_data.ensures) (c.in-Ok-Data.is ∙ ap Ok c.in-Ok-Data.field-0-is) _ c.in_err-judge_data-in-Ok-Data.was))

pub place_of-i-requires : goal.place_of-i-requires
place_of-i-requires c = λ e.
    let a = (goal.at.place_of-i-requires c).After-line in
    data_low _ _ _ _ _ _ _ _ _ _ (turn a) _ _ (rw (rules_is a) at c.judge_data.ensures) (c.in-Ok-Data.is ∙ ap Ok c.in-Ok-Data.field-0-is) c.in_ok-judge_data-in-Ok-Data.was (rw (rules_is a) at e)

pub bounds-taken-i : goal.bounds-taken-i
bounds-taken-i c = let a = (goal.at.bounds-taken-i c).After-line in data_place _ _ _ _ _ _ _ _ _ _ (turn a) _ _ (rw (rules_is a) at c.judge_data.ensures) (c.in-Ok-Data.is ∙ ap Ok c.in-Ok-Data.field-0-is) c.in_ok-judge_data-in-Ok-Data.was _ (rw (rules_is a) at c.place_of-i.ensures)

pub offset_bounds-lines-i : goal.offset_bounds-lines-i
offset_bounds-lines-i c =
    let a = (goal.at.offset_bounds-lines-i c).After-line in
    let low = data_place _ _ _ _ _ _ _ _ _ _ (turn a) _ _ (rw (rules_is a) at c.judge_data.ensures) (c.in-Ok-Data.is ∙ ap Ok c.in-Ok-Data.field-0-is) c.in_ok-judge_data-in-Ok-Data.was _ (rw (rules_is a) at c.place_of-i.ensures) in
    omega arith

pub bounds-lines-i : goal.bounds-lines-i
bounds-lines-i c = let a = (goal.at.bounds-lines-i c).After-line in data_place _ _ _ _ _ _ _ _ _ _ (turn a) _ _ (rw (rules_is a) at c.judge_data.ensures) (c.in-Ok-Data.is ∙ ap Ok c.in-Ok-Data.field-0-is) c.in_ok-judge_data-in-Ok-Data.was _ (rw (rules_is a) at c.place_of-i.ensures)

pub overflow_add-head : goal.overflow_add-head
overflow_add-head c = let a = (goal.at.overflow_add-head c).After-line in let room = data_room _ _ _ _ _ _ _ _ _ _ (turn a) _ _ (rw (rules_is a) at c.judge_data.ensures) (c.in-Ok-Data.is ∙ ap Ok c.in-Ok-Data.field-0-is) c.in_ok-judge_data-in-Ok-Data.was in omega arith

pub loop-s-preserved : goal.loop-s-preserved
loop-s-preserved c =
    let a = (goal.at.loop-s-preserved c).After-line in
    elim c.match-this.branch [
      | in-Ok-Comment w ↦ rw (w.head-is, w.taken-is, w.lines-is) (comment_on _ _ _ _ _ _ _ _ _ _ (turn a) (cc))
      | in-Ok-Problem+in_ok-judge_problem-in-Ok-Problem w ↦
          rw (w.head-is, w.taken-is, w.lines-is) (problem_on _ _ _ _ _ _ _ _ _ _ (turn a) _ _ (rw (rules_is a) at w.judge_problem.ensures) (cc) w.in_ok-judge_problem-in-Ok-Problem.was)
      | in-Ok-Data+in_ok-judge_data-in-Ok-Data w ↦
          rw (w.head-is, w.taken-is, w.lines-is)
          (data_on _ _ _ _ _ _ _ _ _ _ (turn a) _ _ (rw (rules_is a) at w.judge_data.ensures) (cc) w.in_ok-judge_data-in-Ok-Data.was _ (rw (rules_is a) at w.place_of-i.ensures))
    ]

-- no line is left
end : (c : After-judge_end)
    → read_text c.args.format c.args.text.now
    ≡ on_judged c.judge_end.result (read c.numbers-problem.result (take (announced (rules_of c.args.format c.numbers-problem.result) c.numbers-problem.result) c.loop-s.lines))
end c =
    let none = c.in-None.ensures in
    rw (c.judge_end.ensures, c.rules.ensures, c.numbers-problem.ensures) (text_end _ _ _ _ (rw none.steps.0 at c.loop-s.invariant))

pub returns-in_err-judge_end : goal.returns-in_err-judge_end
unfolding on_judged
returns-in_err-judge_end c =
    let returned = err_from_is_err_and c.from_residual-in_err-judge_end.result c.from_residual-in_err-judge_end.ensures.1 in
    rw (returned.1, returned.2) (sym (end (goal.at.returns-in_err-judge_end c).After-judge_end ∙ rw c.in_err-judge_end.was))

pub returns : goal.returns
unfolding on_judged
returns c = sym (end (goal.at.returns c).After-judge_end ∙ rw c.in_ok-judge_end.was)
