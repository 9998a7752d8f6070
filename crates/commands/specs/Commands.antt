-- What a line of the console asks for, or its first fault.
use Rattle.std.specs.Prelude.{ℕ, ℤ, List, [], ◌∷◌, cond, ◌||◌, eqb, leb, length, drop, Some, None, Result, Ok, Err}
use Rattle.std.specs.Option.{ok_or}
use Prim.Native.Char.{code}
use Rattle.scan.specs.Pieces.{fields_of}
use Rattle.scan.specs.Numbers.{natural_of, integer_of}
use Rattle.commands.specs.Words.{words_of, word, holds_byte, none_empty}
use Rattle.commands.specs.Verbs.{verb_of, takes_words}
use Rattle.commands.specs.Rows.{row_of, places_of, kind_of}
use Rattle.commands.specs.Numbers.{count_of, byte_of, signed_of}
use Rattle.commands.specs.declared.Fault.{Fault}
use Rattle.commands.specs.declared.Fault.TheVariants.{EmptyLine, ControlByte, EmptyWord, NoCommand, WordCount, NoRow, LongRow}
use Rattle.commands.specs.declared.Call.TheVariants as call
use Rattle.commands.specs.declared.Request.{Request}
use Rattle.commands.specs.declared.Request.TheVariants as request
use Rattle.commands.specs.declared.Command.{Command}
use Rattle.commands.specs.declared.Command.TheVariants.{Lend, Fresh, Read, Save, Other}
use Rattle.commands.specs.declared.verbs.Verb.{Verb}
use Rattle.commands.specs.declared.verbs.Verb.TheVariants as verb
use Rattle.commands.specs.declared.rows.Row.{Row}
use Rattle.commands.specs.declared.rows.Kind.{Kind}
use Rattle.commands.specs.declared.rows.Kind.TheVariants.{Counts, Numbers, Bytes}

-- what follows an answer; the first fault decides
abbrev pub on_ok : {A B : Type 0} → Result A Fault → (A → Result B Fault) → Result B Fault
on_ok (Ok a) go = go a
on_ok (Err fault) go = Err fault

-- what stands where only faults are looked for
abbrev pub Judged : Type 0
Judged = Result Unit Fault

-- ---- faults of a line's bytes

abbrev pub line_judged : List ℕ → Judged
line_judged line =
    cond (eqb (length line) 0) (Err EmptyLine)
    (cond (holds_byte (code "\r") line || holds_byte (code "\t") line) (Err ControlByte)
    (cond (none_empty (fields_of line)) (Ok tt) (Err EmptyWord)))

-- ---- numbers

-- a word as a number without sign
abbrev pub number : List ℕ → Result ℕ Fault
number word = count_of (natural_of word)

-- a word as a byte
abbrev pub byte : List ℕ → Result ℕ Fault
byte word = byte_of (natural_of word)

-- a word as a number that may be negative
abbrev pub signed : List ℕ → Result ℤ Fault
signed word = signed_of (integer_of word)

-- a word where a value of a row is to stand
abbrev pub value_judged : Kind → List ℕ → Judged
value_judged Counts word = on_ok (number word) (λ _. Ok tt)
value_judged Numbers word = on_ok (signed word) (λ _. Ok tt)
value_judged Bytes word = on_ok (byte word) (λ _. Ok tt)

-- all the values of a row; the first that is wrong decides
unfoldable pub values_judged : Kind → List (List ℕ) → Judged
values_judged kind [] = Ok tt
values_judged kind (w ∷ ws) = on_ok (value_judged kind w) (λ _. values_judged kind ws)

-- ---- a command with what stands after its first word

abbrev pub requested : Request → Result Command Fault
requested r = Ok (Other r)

-- the row that the first word names
abbrev pub row_in : List (List ℕ) → Result Row Fault
row_in words = ok_or (row_of (word 0 words)) NoRow

-- `lend` with a row's values: their count is judged before any of them
abbrev pub lend_asked : List (List ℕ) → Row → Result Command Fault
lend_asked values row = cond (leb (length values) (places_of row)) (on_ok (values_judged (kind_of row) values) (λ _. Ok (Lend row))) (Err LongRow)

-- `show` with a count or without
abbrev pub show_asked : List (List ℕ) → Row → Result Command Fault
show_asked [] row = requested (request.Show row None)
show_asked (k ∷ more) row = on_ok (number k) (λ v. requested (request.Show row (Some v)))

-- Numbers are judged from the left, each by its spelling and its size before the next; so the byte of `update` comes last, and the arc
-- of `why`.
abbrev pub asked : Verb → List (List ℕ) → Result Command Fault
asked verb.N words = on_ok (number (word 0 words)) (λ v. requested (request.SetN v))
asked verb.M words = on_ok (number (word 0 words)) (λ v. requested (request.SetM v))
asked verb.Lend words = on_ok (row_in words) (lend_asked (drop 1 words))
asked verb.Show words = on_ok (row_in words) (show_asked (drop 1 words))
asked (verb.Read reading) words = Ok (Read reading)
asked verb.Build words = requested (request.Call call.Build)
asked verb.Check words = requested (request.Call call.Check)
asked verb.Update words =
    on_ok (number (word 0 words)) (λ a. on_ok (number (word 1 words)) (λ w. on_ok (byte (word 2 words)) (λ b.
    requested (request.Call (call.Update (record { arc = a; weight = w; closure = b })))
    )))
asked verb.Search words = on_ok (number (word 0 words)) (λ s. on_ok (number (word 1 words)) (λ t. requested (request.Call (call.Search s t))))
asked verb.Boxed words = on_ok (number (word 0 words)) (λ s. on_ok (number (word 1 words)) (λ t. requested (request.Call (call.Boxed s t))))
asked verb.Why words =
    on_ok (number (word 0 words)) (λ s. on_ok (number (word 1 words)) (λ t. on_ok (number (word 2 words)) (λ e.
    requested (request.Call (call.Why s t e))
    )))
asked (verb.Write format) words = requested (request.Write format)
asked (verb.Save format) words = Ok (Save format)
asked verb.Fresh words = Ok Fresh
asked verb.Help words = requested request.Help

-- ---- a line

abbrev pub command_of : List ℕ → Result Command Fault
command_of line =
    let words = words_of line in
    on_ok (line_judged line) (λ _. on_ok (ok_or (verb_of (word 0 words) (word 1 words)) NoCommand) (λ verb.
    cond (takes_words verb (length words)) (asked verb (drop 1 words)) (Err WordCount)
    ))
