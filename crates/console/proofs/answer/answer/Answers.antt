-- `console::answer::answer` meets its contract.
use Rattle.console.specs.Answers.{Answers, Answered}
use Rattle.console.proofs.AnswerLaws.{answered_as, answered_by, read_as, saved_as}
use Rattle.console.proofs.answer.answer.Goals as goal

pub returns-then-ended-length : goal.returns-then-ended-length
returns-then-ended-length g c = rw c.clear.ensures (Answered.over c.if-ended-length.true)

pub returns-in-Err : goal.returns-in-Err
returns-in-Err g c = rw c.put_fault.ensures.text (answered_by c.if-ended-length.false c.in-Err.ensures c.heard-words.ensures Answers.faulty)

pub returns-in-Ok-Lend : goal.returns-in-Ok-Lend
returns-in-Ok-Lend g c =
    let asks = rw c.in-Ok-Lend.field-0-is at c.in-Ok-Lend.ensures in
    rw (c.put_ok.ensures.text, c.lend.ensures) (answered_by c.if-ended-length.false asks c.heard-words.ensures Answers.lends)

pub returns-in-Ok-Fresh : goal.returns-in-Ok-Fresh
returns-in-Ok-Fresh g c =
    let asks = rw c.in-Ok-Fresh.field-0-is at c.in-Ok-Fresh.ensures in
    rw (c.put_ok-in-Ok-Fresh.ensures.text, c.clear-in-Ok-Fresh.ensures) (answered_by c.if-ended-length.false asks c.heard-words.ensures Answers.fresh)

pub returns-in-Ok-Save : goal.returns-in-Ok-Save
returns-in-Ok-Save g c =
    let asks = rw c.in-Ok-Save.field-0-is at c.in-Ok-Save.ensures in
    answered_as c.if-ended-length.false asks c.heard-words.ensures (saved_as c.save.ensures.saved)

pub returns-in-Ok-Read : goal.returns-in-Ok-Read
returns-in-Ok-Read g c =
    let asks = rw c.in-Ok-Read.field-0-is at c.in-Ok-Read.ensures in
    answered_as c.if-ended-length.false asks c.heard-words.ensures (read_as c.read.ensures.reads)

pub returns-in-Ok-Other : goal.returns-in-Ok-Other
returns-in-Ok-Other g c =
    let asks = rw c.in-Ok-Other.field-0-is at c.in-Ok-Other.ensures in
    answered_by c.if-ended-length.false asks c.heard-words.ensures (Answers.meets c.meet.ensures)
