-- What `lamps` says: the one relation between the mask, the row that is lent, the reply and the row afterwards.
use Rattle.std.specs.Prelude.{ℕ, ◌≤◌, ◌<◌, List, [], ◌∷◌, ◌++◌, length, drop}
use Rattle.rules.specs.Paper.{Reply, accepted, refusal}
use Rattle.rules.specs.declared.Refusal.TheVariants.{RowTooShort}
use Rattle.masks.specs.Panel.{modules_of}

-- 2 where the row has fewer than 32 places, and it is kept. Else how many modules the mask has, and their numbers, lowest first, in
-- the row's first places; the places after them keep their contents.
pub data LampsSays (mask : ℕ) (before : List ℕ) : Reply → List ℕ → Type 0 where
  too_short : length before < 32 → LampsSays mask before (refusal RowTooShort) before
  lit : 32 ≤ length before
      → LampsSays mask before (accepted (length (modules_of mask) ∷ [])) (modules_of mask ++ drop (length (modules_of mask)) before)
