-- `lend`: the values that words spell; the desk that it leaves, and that of `fresh`.
use Rattle.std.specs.Prelude.{ℕ, List, map, length, ℤ, pos, Result, Ok, Err}
use Rattle.commands.specs.Rows.{Value, kind_of}
use Rattle.commands.specs.Commands.{number, byte, signed}
use Rattle.commands.specs.declared.Fault.{Fault}
use Rattle.commands.specs.declared.rows.Row.{Row}
use Rattle.commands.specs.declared.rows.Kind.{Kind}
use Rattle.commands.specs.declared.rows.Kind.TheVariants.{Counts, Numbers, Bytes}
use Rattle.lending.specs.Stores.{Stores, with_row, cleared, lent_in, all_lent, all_of, on_desk}
use Rattle.lending.specs.declared.Desk.{Desk}

-- the number that was read; a word that is none never gets here
unfoldable pub count_in : Result ℕ Fault → ℕ
count_in (Ok v) = v
count_in (Err fault) = 0

unfoldable pub whole_in : Result ℤ Fault → ℤ
whole_in (Ok z) = z
whole_in (Err fault) = pos 0

-- the value of a kind that a word spells
abbrev pub value_in : (kind : Kind) → List ℕ → Value kind
value_in Counts word = count_in (number word)
value_in Numbers word = whole_in (signed word)
value_in Bytes word = count_in (byte word)

-- the stores once the values that words spell are stored in a row
abbrev pub stored_in : Row → List (List ℕ) → Stores → Stores
stored_in r words s = with_row r (map (value_in (kind_of r)) words) s

-- the desk once they are, and as many of the row's places are lent
abbrev pub lending : Row → List (List ℕ) → Desk → Desk
lending r words d = record (on_desk (stored_in r words (all_of d)) d) { lent = lent_in r (length words) d.lent }

-- the desk that `fresh` leaves: all places are lent, and 0 stands in each
abbrev pub afresh : Desk → Desk
afresh d = record (on_desk (cleared (all_of d)) d) { sizes = record { n = 0; m = 0 }; lent = all_lent }
