-- What is said of the rows that were copied is said of the desk.
use Rattle.std.proofs.Common.{◌≡◌, refl, ℕ, ◌≤◌, ℤ, List, length, take, Result, Ok, Err, arith}
use Rattle.rules.specs.declared.Refusal.{Refusal}
use Rattle.rules.specs.declared.Sizes.{Sizes}
use Rattle.walks.specs.Rows.{Rows, rows, open_rows}
use Rattle.files.specs.File.{Held, text, unread}
use Rattle.commands.specs.Rows.{stretch_of, places_of}
use Rattle.commands.specs.declared.Call.{Call}
use Rattle.commands.specs.declared.Request.TheVariants as request
use Rattle.commands.specs.declared.rows.Row.TheVariants.{Tails, Heads, Weights, Closed, X, Y, Boxes, Route, Text, Answers}
use Rattle.commands.specs.declared.verbs.Format.{Format}
use Rattle.commands.specs.declared.verbs.Reading.TheVariants as reading
use Rattle.lending.specs.Stores.{put_at, row}
use Rattle.lending.specs.declared.Desk.{Desk}
use Rattle.replies.specs.Replies.{written_line, unsaved_line}
use Rattle.calls.specs.Calls.{given, Makes}
use Rattle.calls.specs.Texts.{ReadsGraph, ReadsPlaces, RunsDay}
use Rattle.calls.specs.Writing.{TextWrites, Saves}
use Rattle.desk.specs.Desk.{arc_rows, lent_rows, given_back}
use Rattle.desk.specs.Requests.{DeskWrites, Meets, Reads, HasSaved}
use Rattle.desk.proofs.DeskLaws.{put_same, part_past}

-- what a call leaves, where it writes the weights, the closures and the boxes, or the route
abbrev with_counts : Desk → List ℕ → List ℤ → List ℕ → Desk
with_counts d counts numbers bytes = record { sizes = d.sizes; lent = d.lent; counts = counts; numbers = numbers; bytes = bytes }

module _ (d : Desk) {c : Call} {reply : List ℕ} where
  -- all its rows are given back as they were
  pub left_as : Makes d.sizes (lent_rows d) c reply (lent_rows d) → Meets d (request.Call c) reply d
  left_as m =
      let says : Meets d (request.Call c) reply (given_back (lent_rows d) d) = Meets.called m in
      rw (put_same d.lent (stretch_of Weights) d.counts, put_same d.lent (stretch_of Closed) d.bytes, put_same d.lent (stretch_of Boxes) d.numbers, put_same d.lent (stretch_of Route) d.counts) at says

  pub drew : {boxes : List ℤ} → Makes d.sizes (lent_rows d) c reply (given (arc_rows d) (row X d) (row Y d) boxes (row Route d))
      → Meets d (request.Call c) reply (with_counts d d.counts (put_at (stretch_of Boxes) boxes d.numbers) d.bytes)
  drew {boxes} m =
      let says : Meets d (request.Call c) reply (given_back (given (arc_rows d) (row X d) (row Y d) boxes (row Route d)) d) = Meets.called m in
      rw (put_same d.lent (stretch_of Weights) d.counts, put_same d.lent (stretch_of Closed) d.bytes, put_same d.lent (stretch_of Route) d.counts) at says

  pub changed_as : {weights closures : List ℕ} {boxes : List ℤ}
      → Makes d.sizes (lent_rows d) c reply (given (rows (row Tails d) (row Heads d) weights closures) (row X d) (row Y d) boxes (row Route d))
      → length weights ≤ places_of Weights
      → Meets d (request.Call c) reply (with_counts d (put_at (stretch_of Weights) weights d.counts) (put_at (stretch_of Boxes) boxes d.numbers) (put_at (stretch_of Closed) closures d.bytes))
  changed_as {weights} {closures} {boxes} m few =
      let left = given (rows (row Tails d) (row Heads d) weights closures) (row X d) (row Y d) boxes (row Route d) in
      let says : Meets d (request.Call c) reply (given_back left d) = Meets.called m in
      let same = put_same d.lent (stretch_of Route) (put_at (stretch_of Weights) weights d.counts) in
      let kept = part_past d.lent (stretch_of Weights) (stretch_of Route) weights d.counts (omega (arith, few)) in
      rw (rw kept at same) at says

  pub routed : {route : List ℕ} → Makes d.sizes (lent_rows d) c reply (given (arc_rows d) (row X d) (row Y d) (row Boxes d) route)
      → Meets d (request.Call c) reply (with_counts d (put_at (stretch_of Route) route d.counts) d.numbers d.bytes)
  routed {route} m =
      let says : Meets d (request.Call c) reply (given_back (given (arc_rows d) (row X d) (row Y d) (row Boxes d) route) d) = Meets.called m in
      rw (put_same d.lent (stretch_of Weights) d.counts, put_same d.lent (stretch_of Closed) d.bytes, put_same d.lent (stretch_of Boxes) d.numbers) at says

-- the network and the rows that a call was handed are those that are lent on the desk
module _ (d : Desk) {c : Call} {reply : List ℕ} {sizes : Sizes} {R : Rows} {x y : List ℤ} (n : sizes ≡ d.sizes) (e : R ≡ arc_rows d) (f : x ≡ row X d) (g : y ≡ row Y d) where
  pub checked_on : {boxes : List ℤ} → boxes ≡ row Boxes d → Makes sizes (given R x y boxes (row Route d)) c reply (given R x y boxes (row Route d)) → Meets d (request.Call c) reply d
  checked_on h m = left_as d (rw (n, e, f, g, h) at m)

  pub drew_on : {boxes boxes' : List ℤ} → boxes ≡ row Boxes d → Makes sizes (given R x y boxes (row Route d)) c reply (given R x y boxes' (row Route d))
      → Meets d (request.Call c) reply (with_counts d d.counts (put_at (stretch_of Boxes) boxes' d.numbers) d.bytes)
  drew_on h m = drew d (rw (n, e, f, g, h) at m)

  pub routed_on : {boxes : List ℤ} {route route' : List ℕ} → boxes ≡ row Boxes d → route ≡ row Route d → Makes sizes (given R x y boxes route) c reply (given R x y boxes route')
      → Meets d (request.Call c) reply (with_counts d (put_at (stretch_of Route) route' d.counts) d.numbers d.bytes)
  routed_on h i m = routed d (rw (n, e, f, g, h, i) at m)

-- ---- what was read of a file

module _ (d : Desk) {held : Held} {reply : List ℕ} where
  pub graph_on : {R : Rows} {tails heads weights closures : List ℕ} {next : Sizes} → R ≡ arc_rows d → ReadsGraph held d.sizes R reply next (rows tails heads weights closures)
      → Reads held d reading.Gr reply (record {
        sizes = next;
        lent = d.lent;
        counts = put_at (stretch_of Weights) weights (put_at (stretch_of Heads) heads (put_at (stretch_of Tails) tails d.counts));
        numbers = d.numbers;
        bytes = put_at (stretch_of Closed) closures d.bytes;
      })
  graph_on e r = Reads.gr (rw e at r)

  pub places_on : {x y x' y' : List ℤ} → x ≡ row X d → y ≡ row Y d → ReadsPlaces held d.sizes.n x y reply x' y'
      → Reads held d reading.Co reply (with_counts d d.counts (put_at (stretch_of Y) y' (put_at (stretch_of X) x' d.numbers)) d.bytes)
  places_on a b r = Reads.co (rw (a, b) at r)

  pub day_on : {sizes : Sizes} {R : Rows} {x y boxes : List ℤ} {answers answers' : List ℕ} → sizes ≡ d.sizes → R ≡ arc_rows d → x ≡ row X d → y ≡ row Y d → boxes ≡ row Boxes d
      → answers ≡ row Answers d → RunsDay held sizes R x y boxes answers reply answers'
      → Reads held d reading.P2p reply (with_counts d (put_at (stretch_of Answers) answers' d.counts) d.numbers d.bytes)
  day_on n e f g h i r = Reads.p2p (rw (n, e, f, g, h, i) at r)

-- ---- a text that was written

-- of the rows that are lent on the desk
pub rows_written : (d : Desk) (format : Format) {sizes : Sizes} {tails heads weights : List ℕ} {x y : List ℤ} {r : Result ℕ Refusal} {old new : List ℕ}
    → sizes ≡ d.sizes → tails ≡ row Tails d → heads ≡ row Heads d → weights ≡ row Weights d → x ≡ row X d → y ≡ row Y d
    → TextWrites format sizes (open_rows tails heads weights) x y old r new → DeskWrites d format old r new
rows_written d format n a b c f g w = rw (n, a, b, c, f, g) at w

pub written_on : (d : Desk) {format : Format} {r : Result ℕ Refusal} {old new : List ℕ} → old ≡ row Text d → DeskWrites d format old r new
    → Meets d (request.Write format) (written_line r) (with_counts d d.counts d.numbers (put_at (stretch_of Text) new d.bytes))
written_on d same w = Meets.written (rw same at w)

-- or into a row of as many places as are lent of the row `text`, for a file that could not be written
pub unsaved_on : (d : Desk) {format : Format} {r : Result ℕ Refusal} {old new : List ℕ} → length old ≡ length (row Text d) → DeskWrites d format old r new
    → {k : ℕ} → r ≡ Ok k → HasSaved d format unsaved_line
unsaved_on d long w h = record { held = unread; says = Saves.unsaved long (rw h at w) refl }

-- the file holds the text, or what it held where the writer refused
pub saved_on : (d : Desk) (format : Format) (r : Result ℕ Refusal) {old new : List ℕ} → length old ≡ length (row Text d) → DeskWrites d format old r new → HasSaved d format (written_line r)
saved_on d format (Ok k) {new = new} long w = record { held = text (take k new); says = Saves.saved long w refl }
saved_on d format (Err f) long w = record { held = unread; says = Saves.refused long w }
