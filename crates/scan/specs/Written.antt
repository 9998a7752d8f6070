-- Lines and texts that are written, by the forms that are read.
use Rattle.std.specs.Prelude.{ℕ, zero, suc, ◌-◌, ◌<◌, ◌≡◌, List, [], ◌∷◌, ◌++◌, false, cond, ◌&&◌, leb, length, get_or, drop}
use Prim.Native.Char.{code}
use Rattle.scan.specs.Pieces.{lines_of, fields_of}
use Rattle.scan.specs.Line.{is_comment}

-- the fields of a form, with the next of the texts wherever the form has a capital
unfoldable pub filled : List (List ℕ) → List (List ℕ) → List (List ℕ)
filled [] texts = []
filled (p ∷ ps) texts =
    cond (leb (code "A") (get_or p 0 0) && leb (get_or p 0 0) (code "Z"))
    (get_or texts 0 [] ∷ filled ps (drop 1 texts))
    (p ∷ filled ps texts)

-- each field after a space
unfoldable pub spread : List (List ℕ) → List ℕ
spread [] = []
spread (f ∷ fs) = code " " ∷ f ++ spread fs

-- fields with one space between them
unfoldable pub joined : List (List ℕ) → List ℕ
joined [] = []
joined (f ∷ fs) = f ++ spread fs

-- a line of a form, with the texts in the places of its capitals
unfoldable pub line_text : List ℕ → List (List ℕ) → List ℕ
line_text form texts = joined (filled (fields_of form) texts)

-- a text of lines, with byte 10 after each
unfoldable pub closed : List (List ℕ) → List ℕ
closed [] = []
closed (l ∷ ls) = l ++ code "\n" ∷ closed ls

-- what f says of 1..m, in order
unfoldable pub listed : {A : Type 0} → (ℕ → A) → ℕ → List A
listed f zero = []
listed f (suc m) = listed f m ++ (f (suc m) ∷ [])

-- no line of a text is a comment
pub record NoComments (text : List ℕ) : Type 0 where
  pub line : (i : ℕ) → i < length (lines_of text) → is_comment (get_or (lines_of text) i []) ≡ false

abbrev pub last_byte : List ℕ → ℕ
last_byte text = get_or text (length text - 1) 0
