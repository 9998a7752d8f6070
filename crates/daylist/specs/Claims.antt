-- What request g claims, about the contracts' own relations. proofs/Claims.antt proves each under the same name.
use Rattle.std.specs.Prelude.{ℕ, ◌≤◌, ◌<◌, ◌≡◌, ◌↔◌, List, [], ◌∷◌, ◌++◌, map, ℤ, length, get_or, drop, replicate}
use Rattle.rules.specs.Paper.{Reply, accepted, refusal}
use Rattle.rules.specs.declared.Refusal.{Refusal}
use Rattle.scan.specs.Fields.{none}
use Rattle.scan.specs.declared.holding.Numbers.{Numbers}
use Rattle.dimacs.specs.Texts.{read}
use Rattle.dimacs.specs.Reading.{read_p2p}
use Rattle.walks.specs.Rows.{Rows, network}
use Rattle.walks.specs.Least.{Reached}
use Rattle.passing.specs.Signs.{boxes_alone, box_signs}
use Rattle.passing.specs.Passing.{passing}
use Rattle.search.specs.Says.{BoxedSays}
use Rattle.daylist.specs.Replies.{no_route, entry, with_route, with_none, total}
use Rattle.daylist.specs.Says.{DaySays}

-- Separate searches with boxes for the queries, in their order, each with a route row of its own, of at least n places
pub data Separate (n m : ℕ) (R : Rows) (x y boxes : List ℤ) : List Numbers → List Reply → Type 0 where
  no_more : Separate n m R x y boxes [] []
  then : {q : Numbers} {queries : List Numbers} {reply : Reply} {replies : List Reply} {route route' : List ℕ} → n ≤ length route
      → BoxedSays n m R x y boxes q.first q.second route reply route'
      → Separate n m R x y boxes queries replies → Separate n m R x y boxes (q ∷ queries) (reply ∷ replies)

module _ (text : List ℕ) (n m : ℕ) (R : Rows) (x y boxes : List ℤ) (before : List ℕ) where
  -- For each input there is exactly one reply and one content of the row afterwards, refused calls too.
  abbrev pub ExactlyOne : Type 0
  ExactlyOne =
      (reply : Reply) × (after : List ℕ) × (DaySays text n m R x y boxes before reply after)
      × ((other : Reply) (row : List ℕ) → DaySays text n m R x y boxes before other row → (other ≡ reply) × (row ≡ after))

  -- Lengths and totals are those of separate searches: each of the first K places is the length that the search with boxes replies for its
  -- query, or 4,294,967,295 where it replies 12, and the others are kept.
  abbrev pub LengthsAndTotals : Type 0
  LengthsAndTotals =
      (problem : Numbers) (queries : List Numbers) (replies : List Reply) (results after : List ℕ)
      → read_p2p text n before ≡ read problem queries → Separate n m R x y boxes queries replies
      → DaySays text n m R x y boxes before (accepted results) after
      → (results ≡ with_route replies ∷ with_none replies ∷ total replies ∷ []) × (after ≡ map entry replies ++ drop (length replies) before)

  -- Once its text is read, a list is refused as each of the separate searches is,
  abbrev pub RefusedAlike : Type 0
  RefusedAlike =
      (problem : Numbers) (queries : List Numbers) (replies : List Reply) (r : Refusal) (after : List ℕ)
      → read_p2p text n before ≡ read problem queries → Separate n m R x y boxes queries replies
      → DaySays text n m R x y boxes before (refusal r) after → replies ≡ replicate (length queries) (refusal r)

  -- and a refused list leaves the row of answers as it was.
  abbrev pub RefusedKeeps : Type 0
  RefusedKeeps = (r : Refusal) (after : List ℕ) → DaySays text n m R x y boxes before (refusal r) after → after ≡ before

  -- The mark stands exactly for the queries without a route: no length is so large.
  abbrev pub MarkExactly : Type 0
  MarkExactly =
      (problem : Numbers) (queries : List Numbers) (results after : List ℕ) → read_p2p text n before ≡ read problem queries
      → DaySays text n m R x y boxes before (accepted results) after → (i : ℕ) → i < length queries
      → let q = get_or queries i none in
      (get_or after i 0 ≡ no_route) ↔ (¬ Reached (passing boxes_alone (box_signs x y boxes) q.second (network m R)) q.first q.second)
