-- Request a: a plan that is written is read as it was, and one that is read is written as it was exactly where it stood as plans
-- are written. `GrWrites` and `CoWrites` are what the contracts of `write_gr` and `write_co` state, `GrPromise` and `CoPromise`
-- those of `read_gr` and `read_co`, so these are about what the functions return. Each is proved, under the name that stands
-- with it, in proofs/RoundTrip.antt.
use Rattle.rules.specs.Judging.{Judged}
use Rattle.rules.specs.declared.Refusal.{Refusal}
use Rattle.rules.specs.declared.Sizes.{Sizes}
use Rattle.std.specs.Prelude.{ℕ, ◌≤◌, ◌<◌, ◌≡◌, ◌↔◌, List, ◌++◌, ℤ, pos, length, take, drop, get_or, Result, Ok}
use Rattle.dimacs.specs.Promise.{GrPromise, CoPromise}
use Rattle.dimacs.specs.Accepted.{GrOpen}
use Rattle.walks.specs.Rows.{open_rows}
use Rattle.writing.specs.Plain.{PlainGr, PlainCo}
use Rattle.writing.specs.Writes.{GrWrites, CoWrites}

-- the first m places of two rows are the same
abbrev pub SameFirst : {A : Type 0} → A → ℕ → List A → List A → Type 0
SameFirst none m a b = (i : ℕ) → i < m → get_or a i none ≡ get_or b i none

-- the text was written, and stands in front of what stood behind it
abbrev pub WroteBack : List ℕ → List ℕ → Result ℕ Refusal → List ℕ → Type 0
WroteBack text row r row' = (r ≡ Ok (length text)) × (row' ≡ text ++ drop (length text) row)

module _ (n m : ℕ) (tails heads weights row : List ℕ) (k : ℕ) (row' : List ℕ) where
  -- 1. The k bytes that were written are read, whatever rows are lent, with n, m and every arc; each is open. `gr_read_back`
  abbrev pub GrReadBack : Type 0
  GrReadBack =
      GrWrites n m (open_rows tails heads weights) row (Ok k) row'
      → (a b c d : List ℕ) → 2048 ≤ length a → 2048 ≤ length b → 2048 ≤ length c → 2048 ≤ length d
      → (r : Result Sizes Refusal) (a' b' c' d' : List ℕ) → GrPromise (take k row') a b c d r a' b' c' d'
      → (r ≡ (Ok (record { n = n; m = m }))) × SameFirst 0 m a' tails × SameFirst 0 m b' heads × SameFirst 0 m c' weights × GrOpen m d d'

  -- 2. They are at most 36,878, so reading them is never refused as 1. `gr_length`
  abbrev pub GrLength : Type 0
  GrLength = GrWrites n m (open_rows tails heads weights) row (Ok k) row' → k ≤ 36_878

module _ (n : ℕ) (x y : List ℤ) (row : List ℕ) (k : ℕ) (row' : List ℕ) where
  -- 3. So are those of the coordinates, with both of every node. `co_read_back`
  abbrev pub CoReadBack : Type 0
  CoReadBack =
      CoWrites n x y row (Ok k) row'
      → (a b : List ℤ) → 512 ≤ length a → 512 ≤ length b → (r : Judged) (a' b' : List ℤ) → CoPromise (take k row') n a b r a' b'
      → (r ≡ (Ok tt)) × SameFirst (pos 0) n a' x × SameFirst (pos 0) n b' y

  -- 4. They are at most 12,196. `co_length`
  abbrev pub CoLength : Type 0
  CoLength = CoWrites n x y row (Ok k) row' → k ≤ 12_196

-- 5. A text that was read, and whose rows are written into a row that it fits in, comes back byte for byte exactly where it had no
-- comment and ended in byte 10. `gr_write_back`
abbrev pub GrWriteBack : List ℕ → Type 0
GrWriteBack text =
    (a b c d : List ℕ) (n m : ℕ) (a' b' c' d' : List ℕ) → GrPromise text a b c d (Ok (record { n = n; m = m })) a' b' c' d'
    → (row : List ℕ) → length text ≤ length row → (r : Result ℕ Refusal) (row' : List ℕ) → GrWrites n m (open_rows a' b' c') row r row'
    → WroteBack text row r row' ↔ PlainGr text

-- 6. The same of coordinates, where the nodes also stood in ascending order. `co_write_back`
abbrev pub CoWriteBack : List ℕ → Type 0
CoWriteBack text =
    (n : ℕ) (a b a' b' : List ℤ) → CoPromise text n a b (Ok tt) a' b'
    → (row : List ℕ) → length text ≤ length row → (r : Result ℕ Refusal) (row' : List ℕ) → CoWrites n a' b' row r row'
    → WroteBack text row r row' ↔ PlainCo text
