-- The lines of a format: comments, a problem line, data lines.
use Rattle.std.specs.Prelude.{ℕ, List, [], ◌∷◌, Bool, cond, eqb, length, Result, Ok, Err}
use Prim.Native.Char.{code}
use Rattle.scan.specs.Pieces.{fields_of, first_field, same_bytes}
use Rattle.scan.specs.Fields.{matched}
use Rattle.scan.specs.declared.fields.Kind.{Kind}
use Rattle.scan.specs.declared.fields.Kind.TheVariants.{EmptyLine, NoLetter}
use Rattle.scan.specs.declared.fields.Fault.{Fault}
use Rattle.scan.specs.declared.holding.Numbers.{Numbers}
use Rattle.scan.specs.declared.line.Line.{Line}
use Rattle.scan.specs.declared.line.Line.TheVariants.{Comment, Problem, Data}

abbrev pub problem_line : Result Numbers Fault → Result Line Fault
problem_line (Ok ns) = Ok (Problem ns)
problem_line (Err f) = Err f

abbrev pub data_line : Result Numbers Fault → Result Line Fault
data_line (Ok ns) = Ok (Data ns)
data_line (Err f) = Err f

-- a fault at the first column
abbrev pub faulty : Kind → Result Line Fault
faulty kind = Err (record { kind = kind; column = 1 })

-- a comment is a line whose first field is `c`
abbrev pub is_comment : List ℕ → Bool
is_comment s = same_bytes (first_field s) (code "c" ∷ [])

-- the line s of a format whose problem line has the form `problem` and whose data lines have the form `rows`. An empty line is a fault
-- at column 1, and so is a first field, of any other line, that is no letter of the format; the letter says which form is to follow.
unfoldable pub line_of : List ℕ → List ℕ → List ℕ → Result Line Fault
line_of problem rows s =
    cond (eqb (length s) 0) (faulty EmptyLine)
    (cond (is_comment s) (Ok Comment)
    (cond (same_bytes (first_field s) (first_field rows)) (data_line (matched (fields_of rows) 1 (fields_of s)))
    (cond (same_bytes (first_field s) (first_field problem)) (problem_line (matched (fields_of problem) 1 (fields_of s)))
    (faulty NoLetter))))
