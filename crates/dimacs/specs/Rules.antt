-- Which number of a line, and the limits of the numbers on it.
use Rattle.std.specs.Prelude.{ℕ, Bool, ◌&&◌, leb, ℤ, pos}
use Rattle.std.specs.Int.Signed.{le_z}
use Rattle.scan.specs.declared.holding.Numbers.{Numbers}
use Rattle.dimacs.specs.declared.rows.Column.{Column}
use Rattle.dimacs.specs.declared.rows.Column.TheVariants.{First, Second, Third}
use Rattle.dimacs.specs.declared.format.Limits.{Limits}

abbrev pub column_of : Column → Numbers → ℕ
column_of First ns = ns.first
column_of Second ns = ns.second
column_of Third ns = ns.third

-- numbers without sign
abbrev pub naturals : ℕ → ℕ → ℕ → Numbers
naturals first second third = record { first = first; second = second; third = third; x = pos 0; y = pos 0 }

-- a number without sign and two that may have a minus
abbrev pub located : ℕ → ℤ → ℤ → Numbers
located node x y = record { first = node; second = 0; third = 0; x = x; y = y }

-- each number of a is at most its fellow of b
abbrev pub none_above : Numbers → Numbers → Bool
none_above a b = leb a.first b.first && leb a.second b.second && leb a.third b.third && le_z a.x b.x && le_z a.y b.y

-- each number of a line is between the least and the most that it may be
unfoldable pub within : Limits → Numbers → Bool
within l ns = none_above l.least ns && none_above ns l.most
