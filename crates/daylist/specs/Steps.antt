-- What the inner steps tell.
use Rattle.std.specs.Prelude.{ℕ, ◌+◌, ◌≤◌, ◌<◌, ◌≡◌, true, cond, List, [], ◌++◌, map, ℤ, length, get_or, take, drop, Option, Some, None}
use Rattle.rules.specs.Paper.{Reply}
use Rattle.scan.specs.Fields.{none}
use Rattle.scan.specs.declared.holding.Numbers.{Numbers}
use Rattle.walks.specs.Rows.{Rows, network, Sound}
use Rattle.passing.specs.Signs.{boxes_alone, box_signs}
use Rattle.passing.specs.Passing.{passing}
use Rattle.geometry.specs.Row.{Shaped}
use Rattle.search.specs.Says.{Answers}
use Rattle.daylist.specs.Replies.{Replies, has_route, length_told, entry, with_route, with_none, total}
use Rattle.daylist.specs.declared.Totals.{Totals}

-- rows that were judged fine
pub record Lent (n m : ℕ) (R : Rows) (x y boxes : List ℤ) : Type 0 where
  pub sound : Sound n m R
  pub x_long : n ≤ length x
  pub y_long : n ≤ length y
  pub shaped : Shaped m boxes

-- the length told, if there is a route
abbrev pub if_route : Reply → Option ℕ
if_route reply = cond (has_route reply) (Some (length_told reply)) None

-- l is the length that the query from s to t is told, if there is a route; it is far below the mark
pub record Queried (n m : ℕ) (R : Rows) (x y boxes : List ℤ) (s t : ℕ) (l : Option ℕ) : Type 0 where
  pub reply : Reply
  pub route : List ℕ
  pub answers : Answers (passing boxes_alone (box_signs x y boxes) t (network m R)) n s t [] reply route
  pub told : l ≡ if_route reply
  pub near : has_route reply ≡ true → length_told reply ≤ 511_000_000

-- the totals after one answer more
abbrev pub counted : Totals → Option ℕ → Totals
counted T (Some l) = record { found = T.found + 1; none = T.none; sum = T.sum + l }
counted T None = record { found = T.found; none = T.none + 1; sum = T.sum }

-- the queries stand in two rows: their sources, and their targets
pub record InRows (queries : List Numbers) (sources targets : List ℕ) : Type 0 where
  pub source : (i : ℕ) → i < length queries → get_or sources i 0 ≡ (get_or queries i none).first
  pub target : (i : ℕ) → i < length queries → get_or targets i 0 ≡ (get_or queries i none).second

-- the first i queries are answered; T are the totals so far
pub record Answered (n m : ℕ) (R : Rows) (x y boxes : List ℤ) (queries : List Numbers) (i : ℕ) (before after : List ℕ) (T : Totals) : Type 0 where
  pub replies : List Reply
  pub each : Replies n m R x y boxes (take i queries) replies
  pub count : length replies ≡ i
  pub filled : after ≡ map entry replies ++ drop i before
  pub found : T.found ≡ with_route replies
  pub without : T.none ≡ with_none replies
  pub sum : T.sum ≡ total replies

-- all k queries are answered, whichever stand in the rows
abbrev pub AllAnswered : ℕ → ℕ → Rows → List ℤ → List ℤ → List ℤ → ℕ → List ℕ → List ℕ → List ℕ → List ℕ → Totals → Type 0
AllAnswered n m R x y boxes k sources targets before after T =
    (queries : List Numbers) → length queries ≡ k → InRows queries sources targets → Answered n m R x y boxes queries k before after T
