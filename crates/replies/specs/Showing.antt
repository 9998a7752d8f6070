-- What `show` replies.
use Rattle.std.specs.Prelude.{ℕ, List, ◌++◌, cond, ltb, length, take, Option, Some, None}
use Rattle.scan.specs.Ascii.{bytes}
use Rattle.scan.specs.Decimal.{decimal, whole}
use Rattle.pages.specs.Spaced.{spaced}
use Rattle.commands.specs.declared.Fault.TheVariants.{FewerLent}
use Rattle.commands.specs.declared.rows.Row.{Row}
use Rattle.commands.specs.declared.rows.Kind.{Kind}
use Rattle.commands.specs.declared.rows.Kind.TheVariants.{Counts, Numbers, Bytes}
use Rattle.commands.specs.Rows.{Value, kind_of, name_of}
use Rattle.lending.specs.Stores.{row}
use Rattle.lending.specs.declared.Desk.{Desk}
use Rattle.replies.specs.Replies.{fault_line}

-- how many places of a row are to be shown, where so many are lent
abbrev pub how_many : Option ℕ → ℕ → ℕ
how_many None lent = lent
how_many (Some k) lent = k

-- the row's name and its first k values, each after a space; or that fewer are lent
unfoldable pub first_shown : {A : Type 0} → (A → List ℕ) → List ℕ → List A → ℕ → List ℕ
first_shown text name row k = cond (ltb (length row) k) (fault_line FewerLent) (name ++ spaced text (take k row) ++ bytes "\n")

-- the text of a value of a kind
abbrev pub text_of : (kind : Kind) → Value kind → List ℕ
text_of Counts v = decimal v
text_of Numbers v = whole v
text_of Bytes v = decimal v

-- what is shown of a row's lent places
abbrev pub show_line : Row → Option ℕ → Desk → List ℕ
show_line r shown d = first_shown (text_of (kind_of r)) (name_of r) (row r d) (how_many shown (length (row r d)))
