-- Worked lines of a format with the forms `p sp N M` and `a U V W`: the first fault from the left, and its column.
use Rattle.std.specs.Prelude.{ℕ, ◌≡◌, List, Result, Err}
use Rattle.scan.specs.Ascii.{bytes}
use Rattle.scan.specs.Line.{line_of}
use Rattle.scan.specs.declared.fields.Kind.{Kind}
use Rattle.scan.specs.declared.fields.Kind.TheVariants.{EmptyLine, NoLetter, Misspelt, Missing, Extra}
use Rattle.scan.specs.declared.fields.Fault.{Fault}
use Rattle.scan.specs.declared.line.Line.{Line}

abbrev pub line : List ℕ → Result Line Fault
line s = line_of (bytes "p sp N M") (bytes "a U V W") s

abbrev pub fault : Kind → ℕ → Result Line Fault
fault kind column = Err (record { kind = kind; column = column })

abbrev pub WorkedLines : Type 0
WorkedLines =
    (line (bytes "") ≡ fault EmptyLine 1)
    × (line (bytes " ") ≡ fault NoLetter 1)
    × (line (bytes "ab 1 2 3") ≡ fault NoLetter 1)
    × (line (bytes "p xx 4 6") ≡ fault Misspelt 3)
    × (line (bytes "a ") ≡ fault Misspelt 3)
    × (line (bytes "a 1  2 3") ≡ fault Misspelt 5)
    × (line (bytes "a") ≡ fault Missing 2)
    × (line (bytes "a 1 20") ≡ fault Missing 7)
    × (line (bytes "a 1 2 3 ") ≡ fault Extra 9)
    × (line (bytes "a 1 2 3 4 5") ≡ fault Extra 9)
    × (line (bytes "a 1 x") ≡ fault Misspelt 5)
    × (line (bytes "a x 2 3 4") ≡ fault Misspelt 3)
