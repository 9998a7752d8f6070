-- What is replied to a request, or where a file is read, and what is left on the desk.
use Rattle.std.specs.Prelude.{ℕ, List, ℤ, length, Option, Result}
use Rattle.walks.specs.Rows.{Rows}
use Rattle.rules.specs.declared.Refusal.{Refusal}
use Rattle.rules.specs.declared.Sizes.{Sizes}
use Rattle.files.specs.File.{Held}
use Rattle.pages.specs.Page.{Replied}
use Rattle.commands.specs.declared.Call.{Call}
use Rattle.commands.specs.declared.Request.{Request}
use Rattle.commands.specs.declared.Request.TheVariants as request
use Rattle.commands.specs.declared.rows.Row.{Row}
use Rattle.commands.specs.declared.rows.Row.TheVariants.{X, Y, Boxes, Text, Answers}
use Rattle.commands.specs.declared.verbs.Format.{Format}
use Rattle.commands.specs.declared.verbs.Reading.{Reading}
use Rattle.commands.specs.declared.verbs.Reading.TheVariants as reading
use Rattle.lending.specs.Stores.{row, put}
use Rattle.lending.specs.declared.Desk.{Desk}
use Rattle.replies.specs.Replies.{ok_line, help_line, written_line}
use Rattle.replies.specs.Showing.{show_line}
use Rattle.calls.specs.Calls.{Given, Makes}
use Rattle.calls.specs.Texts.{ReadsGraph, ReadsPlaces, RunsDay}
use Rattle.calls.specs.Writing.{TextWrites, Saves}
use Rattle.desk.specs.Desk.{arc_rows, text_rows, put_arcs, with_sizes, lent_rows, given_back}

-- a text of the desk's rows is written into another row, which held `old` and then holds `new`
abbrev pub DeskWrites : Desk → Format → List ℕ → Result ℕ Refusal → List ℕ → Type 0
DeskWrites d format old r new = TextWrites format d.sizes (text_rows d) (row X d) (row Y d) old r new

-- a request's reply, and the desk that it leaves
pub data Meets (d : Desk) : Request → List ℕ → Desk → Type 0 where
  set_n : {v : ℕ} → Meets d (request.SetN v) ok_line (with_sizes d (record { n = v; m = d.sizes.m }))
  set_m : {v : ℕ} → Meets d (request.SetM v) ok_line (with_sizes d (record { n = d.sizes.n; m = v }))
  show : {r : Row} {shown : Option ℕ}
      → Meets d (request.Show r shown) (show_line r shown d) d
  called : {c : Call} {reply : List ℕ} {left : Given} → Makes d.sizes (lent_rows d) c reply left → Meets d (request.Call c) reply (given_back left d)
  written : {format : Format} {r : Result ℕ Refusal} {text : List ℕ}
      → DeskWrites d format (row Text d) r text → Meets d (request.Write format) (written_line r) (put Text text d)
  help : Meets d request.Help help_line d

-- what is read from a file, which holds `held`: the reply, and the desk that is left
pub data Reads (held : Held) (d : Desk) : Reading → List ℕ → Desk → Type 0 where
  gr : {reply : List ℕ} {sizes : Sizes} {R : Rows}
      → ReadsGraph held d.sizes (arc_rows d) reply sizes R
      → Reads held d reading.Gr reply (with_sizes (put_arcs R d) sizes)
  co : {reply : List ℕ} {x y : List ℤ}
      → ReadsPlaces held d.sizes.n (row X d) (row Y d) reply x y
      → Reads held d reading.Co reply (put Y y (put X x d))
  p2p : {reply answers : List ℕ}
      → RunsDay held d.sizes (arc_rows d) (row X d) (row Y d) (row Boxes d) (row Answers d) reply answers
      → Reads held d reading.P2p reply (put Answers answers d)

-- a file was read, whatever it held, and the reply stands on the page
abbrev pub HasRead : Desk → Reading → Desk → List ℕ → Type 0
HasRead before reading after page = Replied (λ (held : Held) reply. Reads held before reading reply after) page

-- `save`: what `write` would put into the lent places of the row `text` goes to a file, which then holds `held`
abbrev pub SavesDesk : Held → Desk → Format → List ℕ → Type 0
SavesDesk held d format reply = Saves held format d.sizes (text_rows d) (row X d) (row Y d) (length (row Text d)) reply

-- the same for some contents of the file afterwards; the reply stands on the page
abbrev pub HasSaved : Desk → Format → List ℕ → Type 0
HasSaved d format page = Replied (λ (held : Held) reply. SavesDesk held d format reply) page
