-- The words of a line.
use Rattle.std.specs.Prelude.{ℕ, List, [], ◌∷◌, Bool, true, false, eqb, get_or}
use Rattle.std.specs.List.{list_any}
use Prim.Native.Char.{code}
use Rattle.scan.specs.Pieces.{pieces, after_first}

-- Words are divided by single spaces; an empty text has none. Where no field is empty, they are the fields.
abbrev pub words_of : List ℕ → List (List ℕ)
words_of s = pieces (code " ") [] s

-- the word in a place, from 0, or an empty one where there are fewer
abbrev pub word : ℕ → List (List ℕ) → List ℕ
word i words = get_or words i []

-- what stands after the first space, or nothing
abbrev pub after_word : List ℕ → List ℕ
after_word s = after_first (code " ") s

-- whether a byte stands in a text
abbrev pub holds_byte : ℕ → List ℕ → Bool
holds_byte b s = list_any (λ c. eqb c b) s

-- whether no piece is empty
unfoldable pub none_empty : List (List ℕ) → Bool
none_empty [] = true
none_empty ([] ∷ ws) = false
none_empty ((b ∷ w) ∷ ws) = none_empty ws
