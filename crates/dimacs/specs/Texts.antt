-- A whole text: its lines are judged from the first, and the first refusal decides.
use Rattle.std.specs.Prelude.{ℕ, ◌+◌, ◌-◌, List, [], ◌∷◌, Bool, true, false, cond, take, set, replicate, Some, None, Result, Ok, Err}
use Rattle.rules.specs.declared.Refusal.{Refusal}
use Rattle.rules.specs.Judging.{Judged}
use Rattle.scan.specs.Pieces.{lines_of}
use Rattle.scan.specs.Fields.{none}
use Rattle.scan.specs.declared.holding.Numbers.{Numbers}
use Rattle.scan.specs.declared.fields.Fault.{Fault}
use Rattle.scan.specs.declared.line.Line.{Line}
use Rattle.scan.specs.declared.line.Line.TheVariants.{Comment, Problem, Data}
use Rattle.dimacs.specs.Formats.{format_line, rules_of}
use Rattle.dimacs.specs.Judgement.{numbers_of, announced, judged, ended}
use Rattle.dimacs.specs.declared.format.Format.{Format}
use Rattle.dimacs.specs.declared.format.Rules.{Rules}
use Rattle.dimacs.specs.declared.judge.Head.{Head}
use Rattle.dimacs.specs.declared.sheet.Sheet.{Sheet}

-- what reading gives: the numbers of the problem line and of the data lines, or a refusal
pub data Outcome : Type 0 where
  read : Numbers → List Numbers → Outcome
  refused : Refusal → Outcome

-- what was read so far; taken says of each place whether a data line stands there
pub record State : Type 0 where
  pub head : Head
  pub taken : List Bool
  pub lines : List Numbers

abbrev pub start : State
start = record { head = record { problem = None; count = 0 }; taken = replicate 2048 false; lines = replicate 2048 none }

-- the place of a data line: its node's, or the next one
abbrev pub place : Rules → Head → Numbers → ℕ
place R h ns = cond R.once (ns.first - 1) h.count

-- what a line that is fine adds
unfoldable pub next : Rules → State → Result Line Fault → State
next R s (Ok Comment) = s
next R s (Ok (Problem ns)) = record { head = record { problem = Some ns; count = s.head.count }; taken = s.taken; lines = s.lines }
next R s (Ok (Data ns)) =
    let i = place R s.head ns in
    record {
      head = record { problem = s.head.problem; count = s.head.count + 1 };
      taken = set s.taken i true;
      lines = set s.lines i ns;
    }
next R s (Err f) = s

unfoldable pub on_judged : Judged → Outcome → Outcome
on_judged (Ok _) o = o
on_judged (Err r) o = refused r

-- the lines ls, of which the first is line k, from the state s
unfoldable pub read_lines : Format → List (List ℕ) → ℕ → State → Outcome
read_lines F [] k s =
    let R = rules_of F (numbers_of s.head) in
    on_judged (ended R s.head k) (read (numbers_of s.head) (take (announced R (numbers_of s.head)) s.lines))
read_lines F (l ∷ ls) k s =
    let R = rules_of F (numbers_of s.head) in
    let line = format_line F l in
    on_judged (judged R s.head s.taken k line) (read_lines F ls (k + 1) (next R s line))

unfoldable pub read_text : Format → List ℕ → Outcome
read_text F text = read_lines F (lines_of text) 1 start

-- what a sheet of the format says
abbrev pub outcome_of : Format → Result Sheet Refusal → Outcome
outcome_of F (Ok s) = read s.problem (take (announced (rules_of F s.problem) s.problem) s.lines)
outcome_of F (Err r) = refused r
