-- A plan from its files, over what `net.gr` and `net.co` hold.
use Rattle.std.specs.Prelude.{ℕ, Bool, true, false, List, ℤ, pos, replicate, Result, Ok, Err}
use Rattle.rules.specs.Judging.{Judged}
use Rattle.rules.specs.Paper.{judged_reply}
use Rattle.rules.specs.declared.Refusal.{Refusal}
use Rattle.rules.specs.declared.Sizes.{Sizes}
use Rattle.scan.specs.Ascii.{bytes}
use Rattle.walks.specs.Rows.{Rows, rows}
use Rattle.walks.specs.Lent.{rows_of}
use Rattle.walks.specs.declared.Network.{Network}
use Rattle.files.specs.File.{Held, text, unread}
use Rattle.wording.specs.Refusals.{place_text}
use Rattle.dimacs.specs.Texts.{Outcome, read, refused}
use Rattle.dimacs.specs.Reading.{read_gr}
use Rattle.dimacs.specs.Promise.{GrPromise, CoPromise}
use Rattle.boxwork.specs.Says.{BuildSays}
use Rattle.loading.specs.declared.Plan.{Plan as PlanLent}
use Rattle.loading.specs.declared.trouble.Trouble.{Trouble}
use Rattle.loading.specs.declared.trouble.Trouble.TheVariants.{Unread, Refused}
use Rattle.loading.specs.declared.trouble.Unusable.{Unusable}
use Rattle.loading.specs.declared.trouble.Unusable.TheVariants.{Graph, Places}

-- `refused`, the number, and the place; 0 and 0 for a file that cannot be opened or read
unfoldable pub trouble_text : Trouble → List ℕ
trouble_text Unread = bytes "refused 0 0"
trouble_text (Refused r) = place_text r

-- a plan: its sizes and its rows
pub record Plan : Type 0 where
  pub sizes : Sizes
  pub arcs : Rows
  pub x : List ℤ
  pub y : List ℤ
  pub boxes : List ℤ

abbrev pub plan : Sizes → Rows → List ℤ → List ℤ → List ℤ → Plan
plan s R x y b = record { sizes = s; arcs = R; x = x; y = y; boxes = b }

abbrev pub plan_of : PlanLent → Plan
plan_of p = plan p.sizes (rows p.tails p.heads p.weights p.closures) p.x p.y p.boxes

-- a plan on a network that is lent
abbrev pub plan_on : Network → List ℤ → List ℤ → List ℤ → Plan
plan_on N x y b = plan (record { n = N.n; m = N.m }) (rows_of N) x y b

-- the rows of a blank plan hold zeros
abbrev pub arc_row : List ℕ
arc_row = replicate 2048 0

abbrev pub node_row : List ℤ
node_row = replicate 512 (pos 0)

abbrev pub blank : Plan
blank = plan (record { n = 0; m = 0 }) (rows arc_row arc_row arc_row arc_row) node_row node_row (replicate 8192 (pos 0))

-- what a refusal, or none, is told as
abbrev pub troubled : Judged → Result Unit Trouble
troubled (Ok _) = Ok tt
troubled (Err r) = Err (Refused r)

-- `net.gr` is judged; what the plan holds is said where it is a graph
pub data ReadsGraph (before : Plan) : Held → Result Unit Trouble → Plan → Type 0 where
  graph_unread : {after : Plan} → ReadsGraph before unread (Err Unread) after
  graph_refused : {held : List ℕ} {r : Refusal} {tails heads weights closures : List ℕ} {after : Plan}
      → GrPromise held before.arcs.tails before.arcs.heads before.arcs.weights before.arcs.closures (Err r) tails heads weights closures
      → ReadsGraph before (text held) (Err (Refused r)) after
  graph_read : {held : List ℕ} {s : Sizes} {tails heads weights closures : List ℕ}
      → GrPromise held before.arcs.tails before.arcs.heads before.arcs.weights before.arcs.closures (Ok s) tails heads weights closures
      → ReadsGraph before (text held) (Ok tt) (plan s (rows tails heads weights closures) before.x before.y before.boxes)

-- after the graph was read: `net.co` is judged, then the boxes are built
pub data ReadsPlaces (before : Plan) : Held → Result Unit Trouble → Plan → Type 0 where
  places_unread : {after : Plan} → ReadsPlaces before unread (Err Unread) after
  places_refused : {held : List ℕ} {r : Refusal} {x y : List ℤ} {after : Plan}
      → CoPromise held before.sizes.n before.x before.y (Err r) x y
      → ReadsPlaces before (text held) (Err (Refused r)) after
  built : {held : List ℕ} {x y boxes : List ℤ} (answer : Judged)
      → CoPromise held before.sizes.n before.x before.y (Ok tt) x y
      → BuildSays before.sizes.n before.sizes.m before.arcs x y before.boxes (judged_reply answer) boxes
      → ReadsPlaces before (text held) (troubled answer) (plan before.sizes before.arcs x y boxes)

-- `net.gr` is opened and judged before `net.co`
pub data Loads (before : Plan) (gr co : Held) : Result Unit Unusable → Plan → Type 0 where
  no_graph : {t : Trouble} {after : Plan} → ReadsGraph before gr (Err t) after → Loads before gr co (Err (Graph t)) after
  no_places : {t : Trouble} {graph after : Plan} → ReadsGraph before gr (Ok tt) graph → ReadsPlaces graph co (Err t) after
      → Loads before gr co (Err (Places t)) after
  loaded : {graph after : Plan} → ReadsGraph before gr (Ok tt) graph → ReadsPlaces graph co (Ok tt) after → Loads before gr co (Ok tt) after

-- what was read of `net.gr` is a graph
unfoldable pub is_read : Outcome → Bool
is_read (read problem lines) = true
is_read (refused r) = false

abbrev pub is_graph : Held → Bool
is_graph unread = false
is_graph (text held) = is_read (read_gr held arc_row arc_row arc_row arc_row)
