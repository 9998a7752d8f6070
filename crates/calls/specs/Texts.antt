-- Files that are read into rows: `gr`, `co` and `p2p`.
use Rattle.std.specs.Prelude.{ℕ, ◌≡◌, List, ℤ, Result, Ok, Err}
use Rattle.walks.specs.Rows.{Rows}
use Rattle.rules.specs.Judging.{Judged}
use Rattle.rules.specs.declared.Refusal.{Refusal}
use Rattle.rules.specs.declared.Sizes.{Sizes}
use Rattle.files.specs.File.{Held, text, unread}
use Rattle.wording.specs.Refusals.{refusal_line, no_file_line}
use Rattle.dimacs.specs.Promise.{GrPromise, CoPromise}
use Rattle.daylist.specs.Says.{DaySays}
use Rattle.daylist.specs.Paper.{paper}
use Rattle.daylist.specs.declared.Totals.{Totals}
use Rattle.replies.specs.Replies.{judged_line, sizes_line, day_line}

-- n and m of a graph file that was read, or why it was refused
abbrev pub graph_line : Result Sizes Refusal → List ℕ
graph_line (Ok read) = sizes_line read.n read.m
graph_line (Err r) = refusal_line r

-- the numbers from now on
abbrev pub graph_sizes : Result Sizes Refusal → Sizes → Sizes
graph_sizes (Ok read) sizes = read
graph_sizes (Err r) sizes = sizes

-- the file is read into the arc rows, and gives n and m; where it is refused or not read, everything stays
pub data ReadsGraph (held : Held) (sizes : Sizes) (R : Rows) : List ℕ → Sizes → Rows → Type 0 where
  no_file : held ≡ unread → ReadsGraph held sizes R no_file_line sizes R
  file : {bytes : List ℕ} (r : Result Sizes Refusal) {R' : Rows}
      → held ≡ text bytes
      → GrPromise bytes R.tails R.heads R.weights R.closures r R'.tails R'.heads R'.weights R'.closures
      → ReadsGraph held sizes R (graph_line r) (graph_sizes r sizes) R'

pub data ReadsPlaces (held : Held) (n : ℕ) (x y : List ℤ) : List ℕ → List ℤ → List ℤ → Type 0 where
  no_file : held ≡ unread → ReadsPlaces held n x y no_file_line x y
  file : {bytes : List ℕ} (r : Judged) {x' y' : List ℤ}
      → held ≡ text bytes
      → CoPromise bytes n x y r x' y'
      → ReadsPlaces held n x y (judged_line r) x' y'

-- the file's queries are answered, in order, into the row of answers
pub data RunsDay (held : Held) (sizes : Sizes) (R : Rows) (x y boxes : List ℤ) (answers : List ℕ) : List ℕ → List ℕ → Type 0 where
  no_file : held ≡ unread → RunsDay held sizes R x y boxes answers no_file_line answers
  file : {bytes : List ℕ} (r : Result Totals Refusal) {answers' : List ℕ}
      → held ≡ text bytes
      → DaySays bytes sizes.n sizes.m R x y boxes answers (paper r) answers'
      → RunsDay held sizes R x y boxes answers (day_line r) answers'
