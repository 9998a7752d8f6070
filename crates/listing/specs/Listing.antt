-- The listing that `boxes` prints.
use Rattle.std.specs.Prelude.{ℕ, zero, suc, ◌+◌, ◌*◌, List, [], ◌++◌, ℤ, pos, get_or}
use Rattle.scan.specs.Ascii.{bytes}
use Rattle.scan.specs.Decimal.{decimal, whole}

-- a number and the space after it
abbrev pub count_field : ℕ → List ℕ
count_field n = decimal n ++ bytes " "

abbrev pub whole_field : ℤ → List ℕ
whole_field z = whole z ++ bytes " "

-- the four sides of the box that begins at place k, and the line's end
abbrev pub box_text : List ℤ → ℕ → List ℕ
box_text boxes k =
    whole_field (get_or boxes k (pos 0))
    ++ whole_field (get_or boxes (k + 1) (pos 0))
    ++ whole_field (get_or boxes (k + 2) (pos 0))
    ++ whole (get_or boxes (k + 3) (pos 0))
    ++ bytes "\n"

-- the line of the arc in place i: arc, tail, head, weight, left, right, low, high
unfoldable pub line_text : List ℕ → List ℕ → List ℕ → List ℤ → ℕ → List ℕ
line_text tails heads weights boxes i =
    count_field (i + 1)
    ++ count_field (get_or tails i 0)
    ++ count_field (get_or heads i 0)
    ++ count_field (get_or weights i 0)
    ++ box_text boxes (4 * i)

-- the lines of the first m arcs
unfoldable pub listing : List ℕ → List ℕ → List ℕ → List ℤ → ℕ → List ℕ
listing tails heads weights boxes zero = []
listing tails heads weights boxes (suc i) = listing tails heads weights boxes i ++ line_text tails heads weights boxes i
