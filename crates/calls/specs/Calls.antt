-- The calls on a network: what each is replied, and what it leaves in its rows.
use Rattle.std.specs.Prelude.{ℕ, Bool, true, false, List, ℤ, Result}
use Rattle.walks.specs.Rows as walks
use Rattle.walks.specs.declared.Network.{Network}
use Rattle.rules.specs.Paper.{judged_reply}
use Rattle.rules.specs.Judging.{Judged}
use Rattle.rules.specs.declared.Change.{Change}
use Rattle.rules.specs.declared.Refusal.{Refusal}
use Rattle.rules.specs.declared.Sizes.{Sizes}
use Rattle.commands.specs.declared.Call.{Call}
use Rattle.commands.specs.declared.Call.TheVariants as call
use Rattle.search.specs.Says.{SearchSays, BoxedSays}
use Rattle.search.specs.Paper.{paper}
use Rattle.search.specs.declared.Found.{Found}
use Rattle.boxwork.specs.Says.{BuildSays, CheckSays, UpdateSays}
use Rattle.reasons.specs.Says.{WhySays}
use Rattle.reasons.specs.Paper as reasons
use Rattle.reasons.specs.declared.Reason.{Reason}
use Rattle.replies.specs.Replies.{judged_line, answer_line, reason_line}

-- the numbers n and m of a network that is lent
abbrev pub sizes_of : Network → Sizes
sizes_of N = record { n = N.n; m = N.m }

-- a search by boxes, or by all open arcs
abbrev pub search_call : Bool → ℕ → ℕ → Call
search_call true s t = call.Boxed s t
search_call false s t = call.Search s t

-- the contents of the rows that a call is given
pub record Given : Type 0 where
  pub tails : List ℕ
  pub heads : List ℕ
  pub weights : List ℕ
  pub closures : List ℕ
  pub x : List ℤ
  pub y : List ℤ
  pub boxes : List ℤ
  pub route : List ℕ

-- the rows of a network, coordinates, boxes and a route row
abbrev pub given : walks.Rows → List ℤ → List ℤ → List ℤ → List ℕ → Given
given R x y b r = record {
  tails = R.tails;
  heads = R.heads;
  weights = R.weights;
  closures = R.closures;
  x = x;
  y = y;
  boxes = b;
  route = r;
}

abbrev pub arcs : Given → walks.Rows
arcs g = walks.rows g.tails g.heads g.weights g.closures

-- the same rows but for what a call has written
abbrev pub with_arcs : walks.Rows → Given → Given
with_arcs R g = given R g.x g.y g.boxes g.route

abbrev pub with_boxes : List ℤ → Given → Given
with_boxes b g = given (arcs g) g.x g.y b g.route

abbrev pub with_route : List ℕ → Given → Given
with_route r g = given (arcs g) g.x g.y g.boxes r

-- a call's answer in a line, and what it leaves in the rows
pub data Makes (sizes : Sizes) (g : Given) : Call → List ℕ → Given → Type 0 where
  build : (j : Judged) {boxes : List ℤ}
      → BuildSays sizes.n sizes.m (arcs g) g.x g.y g.boxes (judged_reply j) boxes
      → Makes sizes g call.Build (judged_line j) (with_boxes boxes g)
  check : (j : Judged)
      → CheckSays sizes.n sizes.m (arcs g) g.x g.y g.boxes (judged_reply j)
      → Makes sizes g call.Check (judged_line j) g
  update : {change : Change} (j : Judged) {R : walks.Rows} {boxes : List ℤ}
      → UpdateSays sizes.n sizes.m (arcs g) g.x g.y g.boxes change.arc change.weight change.closure (judged_reply j) R boxes
      → Makes sizes g (call.Update change) (judged_line j) (with_boxes boxes (with_arcs R g))
  search : {s t : ℕ} (a : Result Found Refusal) {route : List ℕ}
      → SearchSays sizes.n sizes.m (arcs g) s t g.route (paper a) route
      → Makes sizes g (call.Search s t) (answer_line a route) (with_route route g)
  boxed : {s t : ℕ} (a : Result Found Refusal) {route : List ℕ}
      → BoxedSays sizes.n sizes.m (arcs g) g.x g.y g.boxes s t g.route (paper a) route
      → Makes sizes g (call.Boxed s t) (answer_line a route) (with_route route g)
  why : {s t arc : ℕ} (a : Result Reason Refusal)
      → WhySays sizes.n sizes.m (arcs g) s t arc (reasons.paper a)
      → Makes sizes g (call.Why s t arc) (reason_line a) g
