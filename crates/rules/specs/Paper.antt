-- What the paper says of each refusal: its number, and the values that are returned with it.
use Rattle.std.specs.Prelude.{ℕ, Bool, ◌&&◌, ◌||◌, List, [], ◌∷◌, eqb, leb, Ok, Err}
use Rattle.rules.specs.declared.Refusal.{Refusal}
use Rattle.rules.specs.declared.Refusal.TheVariants.{TextTooLong, RowTooShort, EmptyLine, OutOfOrder, BeyondLimits, CountsDisagree, NodeAgain, BadArc, BadCoordinate, BadBox, NotInNetwork, NoWalk, Misses, BadClosure, NoLetter, Misspelt, FieldCount, BadModule}
use Rattle.rules.specs.Judging.{Judged}

-- A reply as the paper has it: a number and values. 0 with the results where a call is accepted, else the refusal's number with its values.
pub record Reply : Type 0 where
  pub number : ℕ
  pub values : List ℕ

-- The table "Numbered refusals": each number, with what the last column also returns.
abbrev pub refusal : Refusal → Reply
refusal TextTooLong = record { number = 1; values = [] }
refusal RowTooShort = record { number = 2; values = [] }
refusal (EmptyLine line column) = record { number = 3; values = line ∷ column ∷ [] }
refusal (OutOfOrder line) = record { number = 4; values = line ∷ [] }
refusal (BeyondLimits line) = record { number = 5; values = line ∷ [] }
refusal (CountsDisagree line) = record { number = 6; values = line ∷ [] }
refusal (NodeAgain line) = record { number = 7; values = line ∷ [] }
refusal (BadArc arc) = record { number = 8; values = arc ∷ [] }
refusal (BadCoordinate node) = record { number = 9; values = node ∷ [] }
refusal (BadBox arc) = record { number = 10; values = arc ∷ [] }
refusal NotInNetwork = record { number = 11; values = [] }
refusal (NoWalk settled) = record { number = 12; values = settled ∷ [] }
refusal (Misses arc node) = record { number = 13; values = arc ∷ node ∷ [] }
refusal (BadClosure arc) = record { number = 14; values = arc ∷ [] }
refusal (NoLetter line column) = record { number = 15; values = line ∷ column ∷ [] }
refusal (Misspelt line column) = record { number = 16; values = line ∷ column ∷ [] }
refusal (FieldCount line column) = record { number = 17; values = line ∷ column ∷ [] }
refusal (BadModule node) = record { number = 18; values = node ∷ [] }

abbrev pub number_of : Refusal → ℕ
number_of r = (refusal r).number

-- the first value, or 0 where there is none
abbrev pub first_or_0 : List ℕ → ℕ
first_or_0 [] = 0
first_or_0 (v ∷ vs) = v

abbrev pub place_of : Refusal → ℕ
place_of r = first_or_0 (refusal r).values

-- 3, 15, 16 and 17 are a line's faults; their values are line and column
abbrev pub tells_column : ℕ → Bool
tells_column number = eqb number 3 || (leb 15 number && leb number 17)

-- a call that is accepted, with its results
abbrev pub accepted : List ℕ → Reply
accepted results = record { number = 0; values = results }

-- a step that only judges
abbrev pub judged_reply : Judged → Reply
judged_reply (Ok _) = accepted []
judged_reply (Err r) = refusal r
