-- What the inner steps of `why` tell.
use Rattle.std.specs.Prelude.{Bool, List, eqb, ℕ, ◌≤◌, Option, Some, None}
use Rattle.std.specs.List.{list_any}
use Rattle.walks.specs.Walk.{Net}
use Rattle.walks.specs.Rows.{Rows, Sound}
use Rattle.walks.specs.Least.{Reached, Dist}
use Rattle.walks.specs.Route.{Route}

-- d(s,t), or that t cannot be reached
abbrev pub IsWay : Net → ℕ → ℕ → Option ℕ → Type 0
IsWay N s t (Some length) = (length ≤ 511_000_000) × Dist N s t length
IsWay N s t None = ¬ Reached N s t

-- whether v is one of a list's numbers
unfoldable pub is_among : ℕ → List ℕ → Bool
is_among v us = list_any (λ u. eqb u v) us

-- a question that was judged fine: s and t are nodes, and e is an arc's number
pub record Asked (n m : ℕ) (R : Rows) (s t e : ℕ) : Type 0 where
  pub sound : Sound n m R
  pub source_low : 1 ≤ s
  pub source_high : s ≤ n
  pub target_low : 1 ≤ t
  pub target_high : t ≤ n
  pub arc_low : 1 ≤ e
  pub arc_high : e ≤ m

-- d(s,t) and the route
pub record Known (N : Net) (s t d : ℕ) (arcs : List ℕ) : Type 0 where
  pub dist : Dist N s t d
  pub route : Route N s t arcs
