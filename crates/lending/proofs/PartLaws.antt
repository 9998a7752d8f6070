-- Laws of the parts of a store that are lent.
use Rattle.std.proofs.Common.{◌≡◌, sym, ap, ◌∙◌, ℕ, ◌+◌, ◌-◌, ◌≤◌, List, ◌++◌, length, take, drop, arith}
use lib.ListN.{length-take, length-drop, length-append}
use lib.Seq.{drop-drop, length-take-le, take-append_seam}
use Rattle.commands.specs.Rows.{Lies, size_of, stretch_of, kind_of, places_of}
use Rattle.commands.specs.declared.rows.Row.{Row}
use Rattle.commands.specs.declared.rows.Stretch.{Stretch}
use Rattle.lending.specs.Stores.{Stores, store_of, lent_at, part_at, put_at, row_on, stored}
use Rattle.lending.specs.declared.rows.Lent.{Lent}

-- no more is lent of a row than it has
pub part_few : {A : Type 0} (lent : Lent) (r : Row) (store part : List A) → part ≡ part_at lent (stretch_of r) store → length part ≤ places_of r
unfolding part_at
part_few {A} lent r store part p =
    let n = ap (length {A = A}) p ∙ length-take (lent_at lent (stretch_of r)) (drop (stretch_of r).start store) in
    omega arith

-- as many places as are lent, where the store has all those of the stretch
pub part_long : {A : Type 0} (lent : Lent) (s : Stretch) (store : List A) → s.start + s.places ≤ length store → length (part_at lent s store) ≡ lent_at lent s
unfolding part_at
part_long lent s store h =
    let n = length-drop s.start store in
    length-take-le (lent_at lent s) (drop s.start store) (omega arith)

-- the lent places of a row are as many as are lent, where its store has all places of its kind
pub row_long : (r : Row) → Lies (stretch_of r) → (lent : Lent) (all : Stores) → size_of (kind_of r) ≤ length (store_of (kind_of r) all)
    → length (row_on r lent all) ≡ lent_at lent (stretch_of r)
row_long r l lent all h = part_long lent (stretch_of r) (store_of (kind_of r) all) (omega (arith, l.within, h))

-- so many places of another row are as many as are lent
pub part_as_long : {A B : Type 0} (lent : Lent) (s : Stretch) (store : List A) → s.start + s.places ≤ length store → (k : ℕ) → k ≡ lent_at lent s → (values : List B) → k ≤ length values
    → length (take k values) ≡ length (part_at lent s store)
part_as_long lent s store h k e values r = length-take-le k values r ∙ e ∙ sym (part_long lent s store h)

-- values at the front of a list, and what stands behind them
pub fetched : {A : Type 0} (part values old new : List A) → values ≡ part → new ≡ stored values old → (length values ≤ length new) × (take (length values) new ≡ part)
fetched {A} part values old new e p =
    let long = ap (length {A = A}) p ∙ length-append values (drop (length values) old) in
    (omega (arith, long), rw p (take-append_seam values (drop (length values) old)) ∙ e)

-- values from a place of a list on
pub stored_from : {A : Type 0} (start : ℕ) (values store : List A) → take start store ++ stored values (drop start store) ≡ take start store ++ (values ++ drop (start + length values) store)
stored_from start values store = rw (drop-drop (length values) start store)

-- a stretch that was looked up in the table
module _ (s : Stretch) (r : Row) (e : s ≡ stretch_of r) where
  -- the part from its first place up to what is lent
  pub part_is : {A : Type 0} (lent : Lent) (k : ℕ) (store : List A) → k ≡ lent_at lent (stretch_of r) → take (s.start + k - s.start) (drop s.start store) ≡ part_at lent (stretch_of r) store
  unfolding part_at
  part_is {A} lent k store p =
      let d : s.start + k - s.start ≡ k = omega arith in
      rw d (rw p (ap (λ (t : Stretch). take (lent_at lent (stretch_of r)) (drop t.start store)) e))

  -- a part that was lent to be written, with what is left in it
  pub part_put_is : {A : Type 0} (k : ℕ) (store ys : List A) → length ys ≡ k
      → take s.start store ++ (ys ++ drop (s.start + k - s.start) (drop s.start store)) ≡ put_at (stretch_of r) ys store
  unfolding put_at
  part_put_is k store ys n =
      let d : s.start + k - s.start ≡ length ys = omega (arith, n) in
      rw (d, drop-drop (length ys) s.start store)
      (ap (λ (t : Stretch). take t.start store ++ (ys ++ drop (t.start + length ys) store)) e)
