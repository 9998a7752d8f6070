-- "The reason that arc is not on the route", in the words and the order of request e. N is the network of the open arcs, without boxes:
-- an arc's number e that is none of its arcs is closed.
use Rattle.std.specs.Prelude.{◌⊎◌, List, ℕ, ◌+◌, ◌<◌}
use Rattle.walks.specs.Walk.{Net}
use Rattle.walks.specs.Least.{Reached, Dist}
use Rattle.walks.specs.Route.{Route}
use Rattle.reasons.specs.Using.{Among, Uses, BestThrough}
use Rattle.reasons.specs.declared.Reason.{Reason}
use Rattle.reasons.specs.declared.Reason.TheVariants.{Closed as closed, CutOff as cut_off, Longer as longer, Tied as tied, OnRoute as on_route}

-- the paper's number
abbrev pub number : Reason → ℕ
number closed = 1
number cut_off = 2
number (longer excess) = 3
number tied = 4
number on_route = 5

-- the best walk through e is longer than d(s,t), by exactly the excess
pub record Longer (N : Net) (s t e excess : ℕ) : Type 0 where
  pub least : ℕ
  pub dist : Dist N s t least
  pub through : BestThrough N s t e (least + excess)
  pub more : 0 < excess

-- a walk of length d(s,t) uses e, but the route that the tie rule picked does not
pub record Tied (N : Net) (s t e : ℕ) : Type 0 where
  pub least : ℕ
  pub arcs : List ℕ
  pub dist : Dist N s t least
  pub uses : Uses N s t e least
  pub route : Route N s t arcs
  pub off : ¬ Among e arcs

-- e is on the route
pub record OnRoute (N : Net) (s t e : ℕ) : Type 0 where
  pub arcs : List ℕ
  pub route : Route N s t arcs
  pub on : Among e arcs

-- what each reason says: 1, e is closed; 2, its start cannot be reached, or the target cannot be reached from its end; 3, 4 and 5 as above
abbrev pub True : Net → ℕ → ℕ → ℕ → Reason → Type 0
True N s t e closed = ¬ N.Arc e
True N s t e cut_off = (¬ Reached N s (N.tail e)) ⊎ (¬ Reached N (N.head e) t)
True N s t e (longer excess) = Longer N s t e excess
True N s t e tied = Tied N s t e
True N s t e on_route = OnRoute N s t e

-- r is the first that is true
pub record FirstTrue (N : Net) (s t e : ℕ) (r : Reason) : Type 0 where
  pub true : True N s t e r
  pub first : (q : Reason) → number q < number r → ¬ True N s t e q
