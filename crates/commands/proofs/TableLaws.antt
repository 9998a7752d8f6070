-- No two rows of the table share a place of a store, or a number; each row's name names it.
use Prim.Native.Nat.{ℕ, ◌+◌}
use mathlib.Core.Path.{◌≡◌, refl}
use mathlib.Core.List.{List, [], ◌∷◌, map}
use mathlib.Core.Bool.{Bool, true, not, ◌&&◌, ◌||◌}
use lib.Dec.{eqb, leb}
use Rattle.std.proofs.Common.{Some}
use Rattle.std.specs.Prelude.{codes}
use Rattle.commands.specs.Rows.{stretch_of, all_rows, name_of, is_called, row_of}
use Rattle.commands.specs.declared.rows.Row.{Row}
use Rattle.commands.specs.declared.rows.Kind.{Kind}
use Rattle.commands.specs.declared.rows.Kind.TheVariants.{Counts, Numbers, Bytes}
use Rattle.commands.specs.declared.rows.Stretch.{Stretch}

abbrev rank : Kind → ℕ
rank Counts = 0
rank Numbers = 1
rank Bytes = 2

abbrev apart : Stretch → Stretch → Bool
apart s t =
    (not (eqb (rank s.kind) (rank t.kind)) || leb (s.start + s.places) t.start || leb (t.start + t.places) s.start)
    && not (eqb s.number t.number)

abbrev each : (Row → Bool) → List Row → Bool
each test [] = true
each test (r ∷ more) = test r && each test more

abbrev all_apart : List Row → Bool
all_apart [] = true
all_apart (r ∷ more) = each (λ (t : Row). apart (stretch_of r) (stretch_of t)) more && all_apart more

-- the test, over the whole table
pub table_apart : all_apart all_rows ≡ true
table_apart = refl

-- the names, one by one
pub row_names_lem : map name_of all_rows ≡ codes "tails" ∷ codes "heads" ∷ codes "weights" ∷ codes "x" ∷ codes "y" ∷ codes "boxes" ∷ codes "route" ∷ codes "text" ∷ codes "closed" ∷ codes "answers" ∷ []
unfolding name_of
row_names_lem = refl

pub rows_named : map (λ (r : Row). row_of (name_of r)) all_rows ≡ map Some all_rows
unfolding name_of is_called
rows_named = refl
