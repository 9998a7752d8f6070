-- Demand 3: the yes that can be trusted, in the club's words and order, once for all that may be asked: rectangles, masks (request
-- h), or both. `CheckBy`, `BuildBy`, `UpdateSays` and `SearchBy` are what the contracts of `check`, `build`, `update` and `search`
-- state, so these five are about what the functions return. Each is proved, under the name that stands with it, in proofs/Demand3.antt.
use Rattle.std.specs.Prelude.{ℕ, ◌≤◌, ◌≡◌, ◌↔◌, List, [], ◌∷◌, ◌++◌, ℤ, length, drop}
use Rattle.rules.specs.Paper.{Reply, accepted, refusal}
use Rattle.rules.specs.declared.Asked.{Asked}
use Rattle.rules.specs.Judging.{fine}
use Rattle.rules.specs.declared.Refusal.{Refusal}
use Rattle.rules.specs.declared.Refusal.TheVariants.{NoWalk}
use Rattle.walks.specs.Least.{Reached}
use Rattle.walks.specs.Rows.{Rows, network}
use Rattle.walks.specs.Through.{Begins}
use Rattle.search.specs.Says.{SearchSays, SearchBy}
use Rattle.passing.specs.Signs.{Signs, signs}
use Rattle.passing.specs.Passing.{Keeps}
use Rattle.judging.specs.Order.{search_judged, check_judged}
use Rattle.boxwork.specs.Says.{BuildBy, CheckBy, CheckSays, UpdateSays}

-- what is asked keeps every node to which some shortest walk from that arc's tail begins with that arc
pub record HoldsAll (asked : Asked) (m : ℕ) (R : Rows) (G : Signs) : Type 0 where
  pub holds : (e t : ℕ) → Begins (network m R) e t → Keeps asked G e t

-- a row that a route was written into: the places after it keep their contents
abbrev pub with_route : List ℕ → List ℕ → List ℕ
with_route route row = route ++ drop (length route) row

-- Two searches that were lent the rows `before` and `before'` agree: the same length d, arc count k and route, written into
-- each row; or 12 together; or both are refused for the same reason. Their settled counts c may differ.
pub data Agree (before before' : List ℕ) : Reply → List ℕ → Reply → List ℕ → Type 0 where
  same_route : {d k c c' : ℕ} (route : List ℕ)
      → Agree before before' (accepted (d ∷ k ∷ c ∷ [])) (with_route route before) (accepted (d ∷ k ∷ c' ∷ [])) (with_route route before')
  no_walk : {c c' : ℕ} → Agree before before' (refusal (NoWalk c)) before (refusal (NoWalk c')) before'
  same_refusal : (r : Refusal) → Agree before before' (refusal r) before (refusal r) before'

-- a reply is 12, "no route", with some settled count
pub record NoRoute (reply : Reply) : Type 0 where
  pub settled : ℕ
  pub is : reply ≡ refusal (NoWalk settled)

module _ (asked : Asked) (n m : ℕ) (R : Rows) (G : Signs) where
  -- 1. "The check says yes exactly when each track's rectangle holds every block end to which some shortest chain from that
  -- track's start begins with it." Nothing before 13 refuses then. `check_exactly`
  abbrev pub CheckExactly : Type 0
  CheckExactly = CheckBy asked n m R G (accepted []) ↔ ((check_judged asked n m R G ≡ fine) × HoldsAll asked m R G)

  -- 2. "After a yes, every search that uses them gives the same length and route as a search with none," whatever rows the two
  -- are lent for the route, if both have the n places that a search needs, or neither. `after_yes`
  abbrev pub AfterYes : Type 0
  AfterYes =
      CheckBy asked n m R G (accepted []) → (s t : ℕ) (before before' after after' : List ℕ) (reply reply' : Reply)
      → (n ≤ length before) ↔ (n ≤ length before')
      → SearchSays n m R s t before reply after → SearchBy asked n m R G s t before' reply' after' → Agree before before' reply after reply' after'

  -- 3. "and 'no route' exactly where no chain leads": in the whole network, if nothing before 12 refuses. `no_route_exactly`
  abbrev pub NoRouteExactly : Type 0
  NoRouteExactly =
      CheckBy asked n m R G (accepted []) → (s t : ℕ) (before after : List ℕ) (reply : Reply)
      → search_judged asked n m R G s t (length before) ≡ fine
      → SearchBy asked n m R G s t before reply after → NoRoute reply ↔ (¬ Reached (network m R) s t)

  -- 4. "Rectangles the box builds or updates always get a yes": those that it builds, `build_yes`
  abbrev pub BuildYes : Type 0
  BuildYes =
      (boxes : List ℤ) (masks : List ℕ) → BuildBy asked n m R G (accepted []) boxes masks
      → CheckBy asked n m R (signs G.x G.y boxes G.modules masks) (accepted [])

module _ (n m : ℕ) (R : Rows) (x y boxes : List ℤ) where
  -- 5. and those that it updates, in the network with the new weight and closure. `update_yes`
  abbrev pub UpdateYes : Type 0
  UpdateYes =
      (before : List ℤ) (arc weight closure : ℕ) (R' : Rows) → UpdateSays n m R x y before arc weight closure (accepted []) R' boxes
      → CheckSays n m R' x y boxes (accepted [])
