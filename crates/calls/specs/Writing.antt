-- Texts of what is lent: `write` and `save`.
use Rattle.std.specs.Prelude.{ℕ, ◌≡◌, List, ℤ, length, take, Result, Ok, Err}
use Rattle.walks.specs.Rows.{Rows}
use Rattle.rules.specs.Judging.{Judged}
use Rattle.rules.specs.declared.Refusal.{Refusal}
use Rattle.files.specs.File.{Held, text, unread}
use Rattle.commands.specs.declared.verbs.Format.{Format}
use Rattle.commands.specs.declared.verbs.Format.TheVariants.{Gr, Co}
use Rattle.writing.specs.Text.{gr_text, co_text}
use Rattle.writing.specs.Writes.{gr_write_judged, co_write_judged, Writes}
use Rattle.replies.specs.Replies.{written_line, unsaved_line}
use Rattle.rules.specs.declared.Sizes.{Sizes}

-- the text of a kind of file, and what its writer is judged by, where the text row has so many places
abbrev pub text_of : Format → Sizes → Rows → List ℤ → List ℤ → List ℕ
text_of Gr sizes R x y = gr_text sizes.n sizes.m R
text_of Co sizes R x y = co_text sizes.n x y

abbrev pub text_judged : Format → Sizes → Rows → List ℤ → List ℤ → ℕ → Judged
text_judged Gr sizes R x y places = gr_write_judged sizes.n sizes.m R places
text_judged Co sizes R x y places = co_write_judged sizes.n x y places

-- the writer replied r, and left the text row as row'
abbrev pub TextWrites : Format → Sizes → Rows → List ℤ → List ℤ → List ℕ → Result ℕ Refusal → List ℕ → Type 0
TextWrites format sizes R x y row r row' = Writes (text_judged format sizes R x y (length row)) (text_of format sizes R x y) row r row'

-- What `write` would put into a row of so many places goes to a file, which then holds `held`: that text, or nothing new where
-- the file cannot be written.
pub data Saves (held : Held) (format : Format) (sizes : Sizes) (R : Rows) (x y : List ℤ) (places : ℕ) : List ℕ → Type 0 where
  refused : {r : Refusal} {row row' : List ℕ} → length row ≡ places → TextWrites format sizes R x y row (Err r) row'
      → Saves held format sizes R x y places (written_line (Err r))
  saved : {k : ℕ} {row row' : List ℕ} → length row ≡ places → TextWrites format sizes R x y row (Ok k) row'
      → held ≡ text (take k row')
      → Saves held format sizes R x y places (written_line (Ok k))
  unsaved : {k : ℕ} {row row' : List ℕ} → length row ≡ places → TextWrites format sizes R x y row (Ok k) row'
      → held ≡ unread
      → Saves held format sizes R x y places unsaved_line
