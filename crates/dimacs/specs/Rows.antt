-- The rows that are lent, after reading.
use Rattle.std.specs.Prelude.{ℕ, List, ◌++◌, map, length, drop, replicate}
use Rattle.scan.specs.declared.holding.Numbers.{Numbers}
use Rattle.dimacs.specs.Texts.{Outcome, read, refused}

-- a row after reading: a number of each data line, then the rest as it was; a refused text leaves it alone
unfoldable pub row : {A : Type 0} → (Numbers → A) → Outcome → List A → List A
row number (read problem lines) old = map number lines ++ drop (length lines) old
row number (refused r) old = old

-- the row of closures after reading, of which a text says nothing: every arc is open, which is 0, then the rest as it was; a refused
-- text leaves it alone
unfoldable pub open_row : Outcome → List ℕ → List ℕ
open_row (read problem lines) old = replicate (length lines) 0 ++ drop (length lines) old
open_row (refused r) old = old
