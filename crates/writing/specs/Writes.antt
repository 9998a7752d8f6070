-- What the writers promise: the paper's reply, and the contents of the text row as it is left.
use Rattle.std.specs.Prelude.{ℕ, ◌≡◌, true, ◌&&◌, List, [], ◌∷◌, ◌++◌, leb, ℤ, length, drop, Result, Ok, Err}
use Rattle.rules.specs.Limits.{most_nodes}
use Rattle.rules.specs.Judging.{Judged, in_turn, passes}
use Rattle.rules.specs.Paper.{Reply, refusal, accepted}
use Rattle.rules.specs.declared.Refusal.{Refusal}
use Rattle.rules.specs.declared.Refusal.TheVariants.{BeyondLimits}
use Rattle.walks.specs.Rows.{Rows}
use Rattle.judging.specs.Order.{lengths, coordinates, arcs_judged}
use Rattle.writing.specs.Text.{gr_text, co_text}

-- The refusals in order; the text row has `room` places.

-- .gr: 5, 2 for the number rows, 8, and last 2 where the text row is shorter than the text
unfoldable pub gr_write_judged : ℕ → ℕ → Rows → ℕ → Judged
gr_write_judged n m R room = in_turn (arcs_judged n m R true ∷ lengths (leb (length (gr_text n m R)) room) ∷ [])

-- coordinates without a network: 5 for n, 2 for the number rows, 9
unfoldable pub places_judged : ℕ → List ℤ → List ℤ → Judged
places_judged n x y =
    in_turn (passes (leb 1 n && leb n most_nodes) (BeyondLimits 0) ∷ lengths (leb n (length x) && leb n (length y)) ∷ coordinates n x y ∷ [])

-- .co: these, and last 2
unfoldable pub co_write_judged : ℕ → List ℤ → List ℤ → ℕ → Judged
co_write_judged n x y room = in_turn (places_judged n x y ∷ lengths (leb (length (co_text n x y)) room) ∷ [])

-- the paper's reply of an answer: the text's length, or the refusal
abbrev pub write_reply : Result ℕ Refusal → Reply
write_reply (Ok length) = accepted (length ∷ [])
write_reply (Err r) = refusal r

abbrev pub write_says : Judged → ℕ → Reply
write_says (Ok _) length = accepted (length ∷ [])
write_says (Err r) length = refusal r

-- the text, then what stood behind it; a refused call leaves the row alone
abbrev pub write_leaves : Judged → List ℕ → List ℕ → List ℕ
write_leaves (Ok _) text row = text ++ drop (length text) row
write_leaves (Err r) text row = row

-- a writer judged so, replied r for this text, and left the text row as row'
pub record Writes (judged : Judged) (text row : List ℕ) (r : Result ℕ Refusal) (row' : List ℕ) : Type 0 where
  pub reply : write_reply r ≡ write_says judged (length text)
  pub left : row' ≡ write_leaves judged text row

-- `write_gr` replied r and left the text row as row'
abbrev pub GrWrites : ℕ → ℕ → Rows → List ℕ → Result ℕ Refusal → List ℕ → Type 0
GrWrites n m R row r row' = Writes (gr_write_judged n m R (length row)) (gr_text n m R) row r row'

-- `write_co` replied r and left the text row as row'
abbrev pub CoWrites : ℕ → List ℤ → List ℤ → List ℕ → Result ℕ Refusal → List ℕ → Type 0
CoWrites n x y row r row' = Writes (co_write_judged n x y (length row)) (co_text n x y) row r row'
