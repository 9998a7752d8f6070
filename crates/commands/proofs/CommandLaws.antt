-- Laws of a line's answers, where the first fault decides.
use Rattle.std.proofs.Common.{◌≡◌, ℕ, List, Option, None, Result, Ok, Err}
use Rattle.std.specs.Option.{ok_or}
use Rattle.commands.specs.Words.{words_of, word}
use Rattle.commands.specs.Verbs.{verb_of}
use Rattle.commands.specs.Commands.{Judged, on_ok, line_judged, command_of}
use Rattle.commands.specs.declared.Fault.{Fault}
use Rattle.commands.specs.declared.Fault.TheVariants.{NoCommand}
use Rattle.commands.specs.declared.Command.{Command}
use Rattle.commands.specs.declared.verbs.Verb.{Verb}

pub on_good_lem : {B : Type 0} (j : Judged) (k : Result B Fault) → j ≡ Ok tt → on_ok j (λ _. k) ≡ k
on_good_lem j k e = rw e

pub once_good_lem : (j : Judged) (command : Command) → j ≡ Ok tt → on_ok j (λ _. Ok command) ≡ Ok command
once_good_lem j command e = on_good_lem j (Ok command) e

no_verb : (j : Judged) (v : Option Verb) (go : Verb → Result Command Fault) → j ≡ Ok tt → v ≡ None → on_ok j (λ _. on_ok (ok_or v NoCommand) go) ≡ Err NoCommand
no_verb j v go good none = rw (good, none)

-- a line without a fault of its bytes whose words name no command is told as such, however many words follow
pub no_command : (line : List ℕ) → line_judged line ≡ Ok tt → verb_of (word 0 (words_of line)) (word 1 (words_of line)) ≡ None → command_of line ≡ Err NoCommand
no_command line good none = no_verb (line_judged line) (verb_of (word 0 (words_of line)) (word 1 (words_of line))) _ good none
