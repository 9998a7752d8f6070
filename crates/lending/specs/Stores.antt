-- The console's stores, the rows that stand in them, and what is lent of a row.
use Rattle.std.specs.Prelude.{ℕ, ◌+◌, min, List, ◌++◌, length, get_or, take, drop, set, replicate}
use Rattle.commands.specs.Rows.{Value, none, stretch_of, kind_of}
use Rattle.commands.specs.declared.rows.Row.{Row}
use Rattle.commands.specs.declared.rows.Kind.{Kind}
use Rattle.commands.specs.declared.rows.Kind.TheVariants.{Counts, Numbers, Bytes}
use Rattle.commands.specs.declared.rows.Stretch.{Stretch}
use Rattle.lending.specs.declared.Desk.{Desk}
use Rattle.lending.specs.declared.rows.Lent.{Lent}

-- ---- the stores

-- what stands in the stores
pub record Stores : Type 0 where
  pub counts : List (Value Counts)
  pub numbers : List (Value Numbers)
  pub bytes : List (Value Bytes)

abbrev pub stores : List (Value Counts) → List (Value Numbers) → List (Value Bytes) → Stores
stores c n b = record { counts = c; numbers = n; bytes = b }

abbrev pub store_of : (kind : Kind) → Stores → List (Value kind)
store_of Counts s = s.counts
store_of Numbers s = s.numbers
store_of Bytes s = s.bytes

-- the stores with another store of a kind
abbrev pub with_store : (kind : Kind) → List (Value kind) → Stores → Stores
with_store Counts store s = stores store s.numbers s.bytes
with_store Numbers store s = stores s.counts store s.bytes
with_store Bytes store s = stores s.counts s.numbers store

-- the stores with 0 in all their places
abbrev pub cleared : Stores → Stores
cleared s = stores (replicate (length s.counts) (none Counts)) (replicate (length s.numbers) (none Numbers)) (replicate (length s.bytes) (none Bytes))

-- ---- what is lent

-- how many places of a stretch are lent, from the first on: as many as were asked for, where it has them
abbrev pub lent_at : Lent → Stretch → ℕ
lent_at lent s = min (get_or lent.most s.number 0) s.places

-- what is lent once k places of a row are
abbrev pub lent_in : Row → ℕ → Lent → Lent
lent_in r k lent = record { most = set lent.most (stretch_of r).number k }

-- all places of every row are lent
abbrev pub all_lent : Lent
all_lent = record { most = replicate 16 65536 }

-- ---- the rows

-- the lent places of a stretch
unfoldable pub part_at : {A : Type 0} → Lent → Stretch → List A → List A
part_at lent s store = take (lent_at lent s) (drop s.start store)

-- the store with the values in the first places of a stretch; all its other places are as before
unfoldable pub put_at : {A : Type 0} → Stretch → List A → List A → List A
put_at s values store = take s.start store ++ (values ++ drop (s.start + length values) store)

-- a row with the values in its first places; its other places are as before
abbrev pub stored : {A : Type 0} → List A → List A → List A
stored values old = values ++ drop (length values) old

-- the lent places of a row
abbrev pub row_on : (r : Row) → Lent → Stores → List (Value (kind_of r))
row_on r lent s = part_at lent (stretch_of r) (store_of (kind_of r) s)

-- the stores with the values in the first places of a row
abbrev pub with_row : (r : Row) → List (Value (kind_of r)) → Stores → Stores
with_row r values s = with_store (kind_of r) (put_at (stretch_of r) values (store_of (kind_of r) s)) s

-- ---- the desk

-- the stores of a desk
abbrev pub all_of : Desk → Stores
all_of d = stores d.counts d.numbers d.bytes

-- the desk with other stores
abbrev pub on_desk : Stores → Desk → Desk
on_desk s d = record { sizes = d.sizes; lent = d.lent; counts = s.counts; numbers = s.numbers; bytes = s.bytes }

-- the lent places of a row
abbrev pub row : (r : Row) → Desk → List (Value (kind_of r))
row r d = row_on r d.lent (all_of d)

-- the desk with other values in a row's first places
abbrev pub put : (r : Row) → List (Value (kind_of r)) → Desk → Desk
put r values d = on_desk (with_row r values (all_of d)) d
