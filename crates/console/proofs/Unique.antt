-- For the same file, each line has one reply and leaves one content of everything; where it names no file, whatever files hold.
use Rattle.std.proofs.Common.{◌≡◌, refl, sym, ◌∙◌, ℕ, List, Bool, Result}
use mathlib.Core.Bool.{false≢true}
use Rattle.files.specs.File.{Held}
use Rattle.commands.specs.declared.Command.{Command}
use Rattle.commands.specs.declared.Fault.{Fault}
use Rattle.lending.specs.declared.Desk.{Desk}
use Rattle.calls.proofs.WritingLaws.{saves_unique}
use Rattle.desk.proofs.Unique.{meets_unique, reads_unique}
use Rattle.console.specs.Input.{asked_by}
use Rattle.console.specs.Answers.{Answers, Answered, NamesNoFile}

pub answers_unique : {held : Held} {line : List ℕ} {before : Desk} {asks : Result Command Fault} {reply reply' : List ℕ} {after after' : Desk}
    → Answers held line before asks reply after → Answers held line before asks reply' after' → (reply ≡ reply') × (after ≡ after')
answers_unique Answers.faulty Answers.faulty = (refl, refl)
answers_unique Answers.lends Answers.lends = (refl, refl)
answers_unique Answers.fresh Answers.fresh = (refl, refl)
answers_unique (Answers.reads r) (Answers.reads r') = reads_unique r r'
answers_unique (Answers.saves s) (Answers.saves s') = (saves_unique s s', refl)
answers_unique (Answers.meets m) (Answers.meets m') = meets_unique m m'

-- what files hold is nothing to a command that names none
pub answers_any : {held held' : Held} {line : List ℕ} {before : Desk} {asks : Result Command Fault} {reply : List ℕ} {after : Desk}
    → NamesNoFile asks → Answers held line before asks reply after → Answers held' line before asks reply after
answers_any n Answers.faulty = Answers.faulty
answers_any n Answers.lends = Answers.lends
answers_any n Answers.fresh = Answers.fresh
answers_any n (Answers.reads r) = absurd n
answers_any n (Answers.saves s) = absurd n
answers_any n (Answers.meets m) = Answers.meets m

-- a line that names no file has one reply, and leaves one content of everything
pub answered_unique : {line : List ℕ} {bytes : ℕ} {ended : Bool} {before after after' : Desk} {one two : List ℕ} → NamesNoFile (asked_by line bytes)
    → Answered line bytes ended before one after → Answered line bytes ended before two after'
    → (after ≡ after') × (one ≡ two)
answered_unique n (Answered.over o) (Answered.over o') = (refl, refl)
answered_unique n (Answered.over o) (Answered.answered p r) = absurd (false≢true (sym p ∙ o))
answered_unique n (Answered.answered p r) (Answered.over o) = absurd (false≢true (sym p ∙ o))
answered_unique n (Answered.answered p r) (Answered.answered p' r') =
    let same = answers_unique (answers_any n r.says) r'.says in (same.1, same.0)
