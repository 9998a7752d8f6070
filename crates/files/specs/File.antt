-- What a file holds, and what reading it answers.
use Rattle.std.specs.Prelude.{ℕ, ◌≤◌, List, Option, Some, None, take}
use Rattle.std.proofs.Common.{Bor}

-- what a file holds: a text, or nothing where it cannot be read
pub data Held : Type 0 where
  text : List ℕ → Held
  unread : Held

-- what the bytes that were read of a file say it holds
abbrev pub held_of : Option (Bor (List ℕ)) → Held
held_of (Some bytes) = text bytes.now
held_of None = unread

-- what was read of a file into a text
abbrev pub held_in : List ℕ → Option ℕ → Held
held_in bytes (Some n) = text (take n bytes)
held_in bytes None = unread

-- the bytes that were read lie within a text of so many places
abbrev pub Within : ℕ → Option ℕ → Type 0
Within places (Some n) = n ≤ places
Within places None = Unit
