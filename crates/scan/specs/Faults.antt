-- What is true of a line with a fault: it has no form of its format, and the fault is seen where a field begins or the line ends.
use Rattle.std.specs.Prelude.{ℕ, ◌+◌, ◌-◌, ◌≤◌, ◌<◌, ◌≡◌, true, List, [], ◌∷◌, length, get_or, Some, Result, Err}
use Prim.Native.Char.{code}
use Rattle.scan.specs.Pieces.{fields_of}
use Rattle.scan.specs.Fields.{taken}
use Rattle.scan.specs.Line.{is_comment}
use Rattle.scan.specs.declared.holding.Value.{Value}
use Rattle.scan.specs.declared.fields.Kind.{Kind}
use Rattle.scan.specs.declared.fields.Kind.TheVariants.{EmptyLine, NoLetter, Misspelt, Missing, Extra}
use Rattle.scan.specs.declared.fields.Fault.{Fault}
use Rattle.scan.specs.declared.line.Line.{Line}

-- a line's fields are a form's: as many, and each in its spelling
pub data Fits : List (List ℕ) → List (List ℕ) → Type 0 where
  ends : Fits [] []
  goes_on : {p f : List ℕ} {ps fs : List (List ℕ)} {v : Value} → taken p f ≡ Some v → Fits ps fs → Fits (p ∷ ps) (f ∷ fs)

-- the line s has a form: it is a comment, a problem line or a data line
pub data HasForm (problem rows s : List ℕ) : Type 0 where
  comment : is_comment s ≡ true → HasForm problem rows s
  on_problem_line : Fits (fields_of problem) (fields_of s) → HasForm problem rows s
  on_data_line : Fits (fields_of rows) (fields_of s) → HasForm problem rows s

abbrev pub HasFault : Result Line Fault → Type 0
HasFault l = (f : Fault) × (l ≡ Err f)

-- column c is that of a later field of s: a space stands before it
pub record AfterSpace (s : List ℕ) (c : ℕ) : Type 0 where
  pub low : 2 ≤ c
  pub high : c ≤ length s + 1
  pub space : get_or s (c - 2) 0 ≡ code " "

-- where a fault of the line s is seen
abbrev pub SeenAt : List ℕ → Kind → ℕ → Type 0
SeenAt s EmptyLine c = (length s ≡ 0) × (c ≡ 1)
SeenAt s NoLetter c = (0 < length s) × (c ≡ 1)
SeenAt s Misspelt c = AfterSpace s c
SeenAt s Missing c = c ≡ length s + 1
SeenAt s Extra c = AfterSpace s c
