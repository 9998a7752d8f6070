-- What a sieve keeps, and the rows that serve it.
use Rattle.std.specs.Prelude.{Bool, List, ℕ}
use Rattle.passing.specs.Asking.{keeps, Room}
use Rattle.passing.specs.declared.Sieve.{Sieve}

-- the arcs that may be used
abbrev pub keeps_by : Sieve → List ℕ → ℕ → Bool
keeps_by S closures = keeps S.tests closures S.boxes.now S.masks.now

-- the rows serve what is asked of m arcs
abbrev pub RoomBy : Sieve → ℕ → Type 0
RoomBy S m = Room S.tests m S.boxes.now S.masks.now
