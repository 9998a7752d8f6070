-- What is replied to a line, and what becomes of everything that the console has.
use Rattle.std.specs.Prelude.{ℕ, ◌≡◌, List, [], Bool, true, false, ◌&&◌, eqb, take, drop, Result, Ok, Err}
use Rattle.files.specs.File.{Held}
use Rattle.pages.specs.Page.{Replied}
use Rattle.commands.specs.Words.{words_of}
use Rattle.commands.specs.declared.Fault.{Fault}
use Rattle.commands.specs.declared.Request.{Request}
use Rattle.commands.specs.declared.Command.{Command}
use Rattle.commands.specs.declared.Command.TheVariants as command
use Rattle.commands.specs.declared.rows.Row.{Row}
use Rattle.commands.specs.declared.verbs.Format.{Format}
use Rattle.commands.specs.declared.verbs.Reading.{Reading}
use Rattle.lending.specs.Lending.{lending, afresh}
use Rattle.lending.specs.declared.Desk.{Desk}
use Rattle.replies.specs.Replies.{ok_line, fault_line}
use Rattle.desk.specs.Requests.{Meets, Reads, SavesDesk}
use Rattle.console.specs.Input.{asked_by}

-- what a line that asks for a command gets as its reply, and what it leaves; a file that it names holds `held`
pub data Answers (held : Held) (line : List ℕ) (d : Desk) : Result Command Fault → List ℕ → Desk → Type 0 where
  faulty : {fault : Fault} → Answers held line d (Err fault) (fault_line fault) d
  lends : {r : Row} → Answers held line d (Ok (command.Lend r)) ok_line (lending r (drop 2 (words_of line)) d)
  fresh : Answers held line d (Ok command.Fresh) ok_line (afresh d)
  reads : {reading : Reading} {reply : List ℕ} {after : Desk} → Reads held d reading reply after → Answers held line d (Ok (command.Read reading)) reply after
  saves : {format : Format} {reply : List ℕ} → SavesDesk held d format reply → Answers held line d (Ok (command.Save format)) reply d
  meets : {request : Request} {reply : List ℕ} {after : Desk} → Meets d request reply after → Answers held line d (Ok (command.Other request)) reply after

-- the input has ended, and no byte was left for a line
abbrev pub is_over : Bool → ℕ → Bool
is_over ended bytes = ended && eqb bytes 0

-- A line of so many bytes is answered, and its reply stands on the page. Where there is no line, nothing is replied, and everything
-- stays.
pub data Answered (line : List ℕ) (bytes : ℕ) (ended : Bool) (before : Desk) : List ℕ → Desk → Type 0 where
  over : is_over ended bytes ≡ true → Answered line bytes ended before [] before
  answered : {page : List ℕ} {after : Desk}
      → is_over ended bytes ≡ false
      → Replied (λ held reply. Answers held (take bytes line) before (asked_by line bytes) reply after) page
      → Answered line bytes ended before page after

-- a command that names no file: all but `gr`, `co`, `p2p` and `save`
abbrev pub NamesNoFile : Result Command Fault → Type 0
NamesNoFile (Err fault) = Unit
NamesNoFile (Ok (command.Lend r)) = Unit
NamesNoFile (Ok command.Fresh) = Unit
NamesNoFile (Ok (command.Read reading)) = ⊥
NamesNoFile (Ok (command.Save format)) = ⊥
NamesNoFile (Ok (command.Other asks)) = Unit
