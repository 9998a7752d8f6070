-- Laws of what is replied to a line.
use Rattle.std.proofs.Common.{◌≡◌, subst, ℕ, List, Bool, false, take, Result, Ok}
use Rattle.files.specs.File.{Held, unread}
use Rattle.pages.specs.Page.{Replied}
use Rattle.commands.specs.declared.Fault.{Fault}
use Rattle.commands.specs.declared.Command.{Command}
use Rattle.commands.specs.declared.Command.TheVariants.{Read, Save}
use Rattle.commands.specs.declared.verbs.Format.{Format}
use Rattle.commands.specs.declared.verbs.Reading.{Reading}
use Rattle.lending.specs.declared.Desk.{Desk}
use Rattle.desk.specs.Requests.{HasRead, HasSaved}
use Rattle.console.specs.Input.{asked_by}
use Rattle.console.specs.Answers.{Answers, Answered, is_over}

-- what is said of what a line asks for
module _ {line words : List ℕ} {bytes : ℕ} {ended : Bool} {asks : Result Command Fault} {before after : Desk} {page : List ℕ}
    (on : is_over ended bytes ≡ false) (p : asks ≡ asked_by line bytes) (q : words ≡ take bytes line) where
  pub answered_as : Replied (λ (held : Held) reply. Answers held words before asks reply after) page → Answered line bytes ended before page after
  answered_as r =
      let asked = subst (λ (c : Result Command Fault). Answers r.held words before c page after) p r.says in
      let says = subst (λ (l : List ℕ). Answers r.held l before (asked_by line bytes) page after) q asked in
      Answered.answered on (record { held = r.held; says = says })

  -- a line that names no file
  pub answered_by : Answers unread words before asks page after → Answered line bytes ended before page after
  answered_by says = answered_as (record { held = unread; says = says })

pub read_as : {words : List ℕ} {reading : Reading} {before after : Desk} {page : List ℕ} → HasRead before reading after page
    → Replied (λ held reply. Answers held words before (Ok (Read reading)) reply after) page
read_as r = record { held = r.held; says = Answers.reads r.says }

pub saved_as : {words : List ℕ} {format : Format} {d : Desk} {page : List ℕ} → HasSaved d format page
    → Replied (λ held reply. Answers held words d (Ok (Save format)) reply d) page
saved_as r = record { held = r.held; says = Answers.saves r.says }
