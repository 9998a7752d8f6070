-- The rows of the console: their names, what each holds, and where it stands.
use Rattle.std.specs.Prelude.{ℕ, ◌+◌, ◌*◌, ◌≤◌, ◌<◌, List, [], ◌∷◌, Bool, ℤ, pos, Option, find, codes}
use Rattle.std.specs.Str.{bytes_eq}
use Rattle.commands.specs.declared.rows.Row.{Row}
use Rattle.commands.specs.declared.rows.Row.TheVariants as row
use Rattle.commands.specs.declared.rows.Kind.{Kind}
use Rattle.commands.specs.declared.rows.Kind.TheVariants.{Counts, Numbers, Bytes}
use Rattle.commands.specs.declared.rows.Stretch.{Stretch}

-- what a row of a kind holds, and 0 of that kind
abbrev pub Value : Kind → Type 0
Value Counts = ℕ
Value Numbers = ℤ
Value Bytes = ℕ

abbrev pub none : (kind : Kind) → Value kind
none Counts = 0
none Numbers = pos 0
none Bytes = 0

-- the places of each kind's store
abbrev pub size_of : Kind → ℕ
size_of Counts = 32768
size_of Numbers = 40960
size_of Bytes = 49152

-- a kind, a row's number, the first of its places in the store of that kind, and how many they are
abbrev pub stretch_from : Kind → ℕ → ℕ → ℕ → Stretch
stretch_from k n s p = record { kind = k; number = n; start = s; places = p }

-- the table of the rows
abbrev pub stretch_of : Row → Stretch
stretch_of row.Tails = stretch_from Counts 0 0 4096
stretch_of row.Heads = stretch_from Counts 1 4096 4096
stretch_of row.Weights = stretch_from Counts 2 8192 4096
stretch_of row.X = stretch_from Numbers 3 0 1024
stretch_of row.Y = stretch_from Numbers 4 1024 1024
stretch_of row.Boxes = stretch_from Numbers 5 2048 16384
stretch_of row.Route = stretch_from Counts 6 12288 1024
stretch_of row.Text = stretch_from Bytes 7 0 40960
stretch_of row.Closed = stretch_from Bytes 8 40960 4096
stretch_of row.Answers = stretch_from Counts 9 13312 512

abbrev pub all_rows : List Row
all_rows = row.Tails ∷ row.Heads ∷ row.Weights ∷ row.X ∷ row.Y ∷ row.Boxes ∷ row.Route ∷ row.Text ∷ row.Closed ∷ row.Answers ∷ []

-- ----

abbrev pub kind_of : Row → Kind
kind_of r = (stretch_of r).kind

abbrev pub places_of : Row → ℕ
places_of r = (stretch_of r).places

-- the word that names a row
unfoldable pub name_of : Row → List ℕ
name_of row.Tails = codes "tails"
name_of row.Heads = codes "heads"
name_of row.Weights = codes "weights"
name_of row.X = codes "x"
name_of row.Y = codes "y"
name_of row.Boxes = codes "boxes"
name_of row.Route = codes "route"
name_of row.Text = codes "text"
name_of row.Closed = codes "closed"
name_of row.Answers = codes "answers"

unfoldable pub is_called : List ℕ → Row → Bool
is_called word r = bytes_eq (name_of r) word

-- the row that a word names
abbrev pub row_of : List ℕ → Option Row
row_of word = find (is_called word) all_rows

-- how many bytes of a page a value takes at most, with the space before it
abbrev pub width_of : Kind → ℕ
width_of Counts = 22
width_of Numbers = 22
width_of Bytes = 4

-- the stretch lies in the store, and its values have room on a page
pub record Lies (s : Stretch) : Type 0 where
  pub number : s.number < 16
  pub within : s.start + s.places ≤ size_of s.kind
  pub short : s.places * width_of s.kind ≤ 360448
