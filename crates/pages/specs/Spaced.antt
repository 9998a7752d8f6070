-- Rows of numbers as text.
use Rattle.std.specs.Prelude.{ℕ, List, [], ◌∷◌, ◌++◌, ℤ}
use Rattle.scan.specs.Ascii.{bytes}
use Rattle.scan.specs.Decimal.{decimal, whole}

-- a row's values, each after a space
unfoldable pub spaced : {A : Type 0} → (A → List ℕ) → List A → List ℕ
spaced text [] = []
spaced text (v ∷ more) = bytes " " ++ text v ++ spaced text more

abbrev pub counts_text : List ℕ → List ℕ
counts_text row = spaced decimal row

abbrev pub numbers_text : List ℤ → List ℕ
numbers_text row = spaced whole row
