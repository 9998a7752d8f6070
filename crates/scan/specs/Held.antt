-- How the code holds numbers that are too large for it. No public statement cites this: two lines that are held alike
-- are judged alike (dimacs), and so are two words of a command (commands).
use Rattle.std.specs.Prelude.{ℕ, ◌-◌, min, ℤ, pos, negsuc, Option, Some, None, Result, Ok, Err}
use Rattle.scan.specs.declared.holding.Numbers.{Numbers}
use Rattle.scan.specs.declared.holding.Value.{Value}
use Rattle.scan.specs.declared.holding.Value.TheVariants.{Word, Unsigned, Signed}
use Rattle.scan.specs.declared.fields.Fault.{Fault}
use Rattle.scan.specs.declared.line.Line.{Line}
use Rattle.scan.specs.declared.line.Line.TheVariants.{Comment, Problem, Data}

-- a number that is at most m away from 0
abbrev pub limited : ℕ → ℤ → ℤ
limited m (pos v) = pos (min v m)
limited m (negsuc v) = negsuc (min v (m - 1))

-- A number as it is read: at most 10,000,000,000 away from 0, so that every number of 32 bits keeps its value.

unfoldable pub held_natural : Option ℕ → Option ℕ
held_natural (Some v) = Some (min v 10_000_000_000)
held_natural None = None

unfoldable pub held_integer : Option ℤ → Option ℤ
held_integer (Some z) = Some (limited 10_000_000_000 z)
held_integer None = None

-- A number of a line: at most 10,000,000 away from 0.

unfoldable pub held : ℕ → ℕ
held v = min v 10_000_000

unfoldable pub held_z : ℤ → ℤ
held_z = limited 10_000_000

abbrev pub held_numbers : Numbers → Numbers
held_numbers ns = record { first = held ns.first; second = held ns.second; third = held ns.third; x = held_z ns.x; y = held_z ns.y }

unfoldable pub held_value : Value → Value
held_value Word = Word
held_value (Unsigned v) = Unsigned (held v)
held_value (Signed z) = Signed (held_z z)

unfoldable pub held_field : Option Value → Option Value
held_field (Some v) = Some (held_value v)
held_field None = None

unfoldable pub held_fields : Result Numbers Fault → Result Numbers Fault
held_fields (Ok ns) = Ok (held_numbers ns)
held_fields (Err f) = Err f

unfoldable pub held_line : Result Line Fault → Result Line Fault
held_line (Ok Comment) = Ok Comment
held_line (Ok (Problem ns)) = Ok (Problem (held_numbers ns))
held_line (Ok (Data ns)) = Ok (Data (held_numbers ns))
held_line (Err f) = Err f
