-- The lines of the input.
use Rattle.std.specs.Prelude.{ℕ, zero, suc, ◌+◌, ◌-◌, ◌<◌, min, ◌≡◌, ◌⊎◌, List, [], ◌∷◌, Bool, true, false, length, get_or, set, Option, Some, None}
use Rattle.hearing.specs.declared.input.Input.{Input}

-- so many bytes of a chunk from a place on
unfoldable pub bytes_from : List ℕ → ℕ → ℕ → List ℕ
bytes_from chunk at zero = []
bytes_from chunk at (suc n) = get_or chunk at 0 ∷ bytes_from chunk (at + 1) n

-- what was read and is ahead
unfoldable pub ahead_of : Input → List ℕ
ahead_of input = bytes_from input.chunk input.at (input.end - input.at)

-- a room with a line written into it, byte by byte from the place `at` on, as far as there is room
unfoldable pub written : List ℕ → ℕ → List ℕ → List ℕ
written room at [] = room
written room at (b ∷ line) = written (set room at b) (at + 1) line

-- A line is heard of the bytes that are ahead, up to the first byte 10, and what follows that stays ahead. Where all is heard
-- and no byte 10 has come, more is read: which bytes a read brings nothing says, and none are the end of the input.
pub data Hears : List ℕ → List ℕ → Bool → List ℕ → Type 0 where
  line_end : {rest : List ℕ} → Hears (10 ∷ rest) [] false rest
  byte : {b : ℕ} {ahead line rest : List ℕ} {ended : Bool} → (b ≡ 10 → ⊥) → Hears ahead line ended rest → Hears (b ∷ ahead) (b ∷ line) ended rest
  reads : {b : ℕ} {more line rest : List ℕ} {ended : Bool} → Hears (b ∷ more) line ended rest → Hears [] line ended rest
  over : Hears [] [] true []

-- A line that was heard stands at the beginning of the room that is lent for it, as far as there is room; its count of bytes
-- is one more than there is room for where it is too long. No input has a line of 18,446,744,073,709,551,615 bytes.
pub record HeardLine (ahead before after : List ℕ) (bytes : ℕ) (ended : Bool) (rest : List ℕ) : Type 0 where
  pub line : List ℕ
  pub hears : length line < 18446744073709551615 → Hears ahead line ended rest
  pub kept : after ≡ written before 0 line
  pub count : bytes ≡ min (length line) (length before + 1)

-- the next byte is the first that is ahead; where none is, the first of a chunk that is read
abbrev pub Follows : Input → Option ℕ → Input → Type 0
Follows input (Some b) input' =
    (ahead_of input ≡ b ∷ ahead_of input')
    ⊎ ((ahead_of input ≡ []) × (bytes_from input'.chunk 0 input'.end ≡ b ∷ ahead_of input'))
Follows input None input' = (ahead_of input ≡ []) × (ahead_of input' ≡ [])
