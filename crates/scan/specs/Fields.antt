-- The fields of a line, read from left to right where its form has fields; the first fault decides.
use Rattle.std.specs.Prelude.{ℕ, ◌+◌, ◌-◌, List, [], ◌∷◌, cond, ◌&&◌, leb, pos, length, get_or, Option, Some, None, option_map, Result, Ok, Err}
use Prim.Native.Char.{code}
use Rattle.scan.specs.Pieces.{same_bytes}
use Rattle.scan.specs.Numbers.{natural_of, integer_of}
use Rattle.scan.specs.declared.holding.Numbers.{Numbers}
use Rattle.scan.specs.declared.holding.Value.{Value}
use Rattle.scan.specs.declared.holding.Value.TheVariants.{Word, Unsigned, Signed}
use Rattle.scan.specs.declared.fields.Kind.{Kind}
use Rattle.scan.specs.declared.fields.Kind.TheVariants.{Misspelt, Missing, Extra}
use Rattle.scan.specs.declared.fields.Fault.{Fault}

-- The numbers of a line stand in its order: first, second and third are those without sign, x and y those that may have a minus.

abbrev pub none : Numbers
none = record { first = 0; second = 0; third = 0; x = pos 0; y = pos 0 }

-- the value of a field before the numbers of the fields after it
unfoldable pub before : Value → Numbers → Numbers
before Word ns = ns
before (Unsigned v) ns = record { first = v; second = ns.first; third = ns.second; x = ns.x; y = ns.y }
before (Signed z) ns = record { first = ns.first; second = ns.second; third = ns.third; x = z; y = ns.x }

-- A field where the form has `form`: small letters stand for themselves, capitals for a number, and from X on for one that may have a minus.

unfoldable pub taken : List ℕ → List ℕ → Option Value
taken form s =
    let b = get_or form 0 0 in
    cond (leb (code "A") b && leb b (code "Z"))
    (cond (leb (code "X") b) (option_map Signed (integer_of s)) (option_map Unsigned (natural_of s)))
    (cond (same_bytes s form) (Some Word) None)

-- a fault of a line, at a column
abbrev pub unread : Kind → ℕ → Result Numbers Fault
unread kind column = Err (record { kind = kind; column = column })

-- a field at the column c, and the fields after it: a wrong spelling, an empty field too, is a fault at the field's first byte
unfoldable pub on_field : Option Value → ℕ → Result Numbers Fault → Result Numbers Fault
on_field (Some v) c (Ok ns) = Ok (before v ns)
on_field (Some v) c (Err f) = Err f
on_field None c later = unread Misspelt c

-- the fields of a line from the column c on, where the form has the fields ps. An extra field is a fault at its first byte, an empty
-- one where it would stand; a missing field is one at the column after the line's last byte, where the space before it would stand.
unfoldable pub matched : List (List ℕ) → ℕ → List (List ℕ) → Result Numbers Fault
matched [] c [] = Ok none
matched [] c (f ∷ fs) = unread Extra c
matched (p ∷ ps) c [] = unread Missing (c - 1)
matched (p ∷ ps) c (f ∷ fs) = on_field (taken p f) c (matched ps (c + (length f + 1)) fs)
