-- What a search says: the one relation between what is lent, the reply and the route row afterwards.
use Rattle.std.specs.Prelude.{ℕ, ◌≡◌, List, [], ◌∷◌, ◌++◌, ℤ, length, drop, Err}
use Rattle.rules.specs.Paper.{Reply, accepted, refusal}
use Rattle.rules.specs.Judging.{Judged, fine}
use Rattle.rules.specs.declared.Refusal.{Refusal}
use Rattle.rules.specs.declared.Refusal.TheVariants as refusals
use Rattle.rules.specs.declared.Asked.{Asked}
use Rattle.walks.specs.Walk.{Net}
use Rattle.walks.specs.Rows.{Rows, network}
use Rattle.walks.specs.Search.{Found, NoWalk}
use Rattle.passing.specs.Signs.{Signs, nothing, boxes_alone, no_signs, box_signs}
use Rattle.passing.specs.Passing.{passing}
use Rattle.judging.specs.Order.{search_judged}

-- The answer for a network of n nodes. Found: the length d, the arc count k and the settled count c, and the route's arcs,
-- source first, in the row's first places; the places after it keep their contents. Else 12 with the settled count.
pub data Answers (N : Net) (n s t : ℕ) (before : List ℕ) : Reply → List ℕ → Type 0 where
  found : {d k c : ℕ} {arcs : List ℕ} → Found N n s t d k c arcs
      → Answers N n s t before (accepted (d ∷ k ∷ c ∷ [])) (arcs ++ drop (length arcs) before)
  none : {c : ℕ} → NoWalk N n s t c → Answers N n s t before (refusal (refusals.NoWalk c)) before

-- The judgement decides: a refusal is the reply, and leaves the row as it was; where it is fine, the answer is given
pub data Says (judged : Judged) (N : Net) (n s t : ℕ) (before : List ℕ) : Reply → List ℕ → Type 0 where
  refused : {r : Refusal} → judged ≡ Err r → Says judged N n s t before (refusal r) before
  answered : {reply : Reply} {after : List ℕ} → judged ≡ fine → Answers N n s t before reply after → Says judged N n s t before reply after

-- a search from s to t by the arcs that pass the tests asked
abbrev pub SearchBy : Asked → ℕ → ℕ → Rows → Signs → ℕ → ℕ → List ℕ → Reply → List ℕ → Type 0
SearchBy asked n m R G s t before reply after =
    Says (search_judged asked n m R G s t (length before)) (passing asked G t (network m R)) n s t before reply after

-- the search without boxes: all arcs
abbrev pub SearchSays : ℕ → ℕ → Rows → ℕ → ℕ → List ℕ → Reply → List ℕ → Type 0
SearchSays n m R s t before reply after = SearchBy nothing n m R no_signs s t before reply after

-- the search with boxes: only those arcs whose box holds t
abbrev pub BoxedSays : ℕ → ℕ → Rows → List ℤ → List ℤ → List ℤ → ℕ → ℕ → List ℕ → Reply → List ℕ → Type 0
BoxedSays n m R x y boxes s t before reply after = SearchBy boxes_alone n m R (box_signs x y boxes) s t before reply after
