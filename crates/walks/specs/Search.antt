-- The reply of a search, and that there is only one.
use Rattle.std.specs.Prelude.{List, ℕ}
use Rattle.walks.specs.Walk.{Net}
use Rattle.walks.specs.Least.{Reached, Best}
use Rattle.walks.specs.Route.{Route}
use Rattle.walks.specs.Settled.{Settled}

-- From s to t, among nodes 1..n: the length, the arc count, the settled count and the route's arcs, source first
pub record Found (N : Net) (n s t d k c : ℕ) (arcs : List ℕ) : Type 0 where
  pub best : Best N s t d k
  pub settled : Settled N n s t c
  pub route : Route N s t arcs

-- There is no walk from s to t; the settled count is c
pub record NoWalk (N : Net) (n s t c : ℕ) : Type 0 where
  pub none : ¬ Reached N s t
  pub settled : Settled N n s t c
