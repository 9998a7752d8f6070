-- The queries of a day's list are answered in order, each as by a search of its own; the lengths and totals of the replies.
use Rattle.std.specs.Prelude.{ℕ, ◌+◌, Bool, cond, List, [], ◌∷◌, eqb, ℤ}
use Rattle.rules.specs.Paper.{Reply, first_or_0}
use Rattle.scan.specs.declared.holding.Numbers.{Numbers}
use Rattle.walks.specs.Rows.{Rows, network}
use Rattle.passing.specs.Signs.{boxes_alone, box_signs}
use Rattle.passing.specs.Passing.{passing}
use Rattle.search.specs.Says.{Answers}

-- The replies to queries, in their order. That to `q S T`, whose numbers are S and T, is the answer of the search with boxes from S to T;
-- no route row is lent, so that its row is empty before.
pub data Replies (n m : ℕ) (R : Rows) (x y boxes : List ℤ) : List Numbers → List Reply → Type 0 where
  none : Replies n m R x y boxes [] []
  then : {q : Numbers} {queries : List Numbers} {reply : Reply} {replies : List Reply} {route : List ℕ}
      → Answers (passing boxes_alone (box_signs x y boxes) q.second (network m R)) n q.first q.second [] reply route
      → Replies n m R x y boxes queries replies → Replies n m R x y boxes (q ∷ queries) (reply ∷ replies)

-- a search replies 0, with the length first, or 12: it had a route, or none
abbrev pub has_route : Reply → Bool
has_route reply = eqb reply.number 0

abbrev pub length_told : Reply → ℕ
length_told reply = first_or_0 reply.values

-- the mark of no route
abbrev pub no_route : ℕ
no_route = 4_294_967_295

-- what stands in the row of answers for a reply: the length, or the mark
abbrev pub entry : Reply → ℕ
entry reply = cond (has_route reply) (length_told reply) no_route

-- how many had a route
unfoldable pub with_route : List Reply → ℕ
with_route [] = 0
with_route (reply ∷ replies) = cond (has_route reply) 1 0 + with_route replies

-- how many had none
unfoldable pub with_none : List Reply → ℕ
with_none [] = 0
with_none (reply ∷ replies) = cond (has_route reply) 0 1 + with_none replies

-- the sum of the lengths found
unfoldable pub total : List Reply → ℕ
total [] = 0
total (reply ∷ replies) = cond (has_route reply) (length_told reply) 0 + total replies
