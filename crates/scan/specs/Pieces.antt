-- The pieces of a text: its lines, and the fields of a line.
use Rattle.std.specs.Prelude.{ℕ, suc, ◌+◌, List, [], ◌∷◌, Bool, cond, eqb, bytes_eq, take, drop}
use Prim.Native.Char.{code}

-- b put before a list of pieces: it opens the first one, or is a piece by itself where there is none
unfoldable pub opening : ℕ → List (List ℕ) → List (List ℕ)
opening b [] = (b ∷ []) ∷ []
opening b (l ∷ ls) = (b ∷ l) ∷ ls

-- the pieces of s between bytes sep; an s with no byte left has the pieces `last`
unfoldable pub pieces : ℕ → List (List ℕ) → List ℕ → List (List ℕ)
pieces sep last [] = last
pieces sep last (b ∷ t) = cond (eqb b sep) ([] ∷ pieces sep last t) (opening b (pieces sep last t))

-- Lines end in byte 10; the last may lack it. A text that ends in byte 10 has no further line.
abbrev pub lines_of : List ℕ → List (List ℕ)
lines_of s = pieces (code "\n") [] s

-- Fields are separated by exactly one space: two spaces in a row, or one at an end, leave an empty field.
abbrev pub fields_of : List ℕ → List (List ℕ)
fields_of s = pieces (code " ") ([] ∷ []) s

-- where the first byte sep of s stands, or the length of s
unfoldable pub first_at : ℕ → List ℕ → ℕ
first_at sep [] = 0
first_at sep (b ∷ t) = cond (eqb b sep) 0 (suc (first_at sep t))

-- what stands after the first byte sep, or nothing
abbrev pub after_first : ℕ → List ℕ → List ℕ
after_first sep s = drop (first_at sep s + 1) s

-- the first field: what stands before the first space
abbrev pub first_field : List ℕ → List ℕ
first_field s = take (first_at (code " ") s) s

-- whether two byte strings are the same
abbrev pub same_bytes : List ℕ → List ℕ → Bool
same_bytes = bytes_eq
