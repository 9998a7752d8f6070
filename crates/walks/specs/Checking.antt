-- Checking a per-arc test: the place that refusal 13 names.
use Rattle.std.specs.Prelude.{ℕ, ◌≤◌}
use Rattle.walks.specs.Walk.{Net}
use Rattle.walks.specs.Through.{InS}

-- the test misses a node t of S(e)
pub record Misses (N : Net) (Keep : ℕ → ℕ → Type 0) (e t : ℕ) : Type 0 where
  pub member : InS N e t
  pub refused : ¬ Keep e t

-- e is the lowest arc with a missed node, and t its lowest missed node
pub record FirstMissed (N : Net) (Keep : ℕ → ℕ → Type 0) (e t : ℕ) : Type 0 where
  pub misses : Misses N Keep e t
  pub lowest_arc : (i j : ℕ) → Misses N Keep i j → e ≤ i
  pub lowest_node : (j : ℕ) → Misses N Keep e j → t ≤ j
