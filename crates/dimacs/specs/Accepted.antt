-- What holds of the rows after an accepted text, place by place (a row's places are counted from 0).
use Rattle.std.specs.Prelude.{ℕ, ◌≤◌, ◌<◌, ◌≡◌, List, ℤ, pos, get_or, length, ◌≤ℤ◌}
use Rattle.rules.specs.Limits.{most_nodes, most_arcs, most_queries, most_weight, least_coordinate, most_coordinate}

-- .gr: n nodes and m arcs, whose tails, heads and weights are within limits
pub record GrLimits (n m : ℕ) (tails heads weights : List ℕ) : Type 0 where
  pub some_node : 1 ≤ n
  pub nodes : n ≤ most_nodes
  pub arcs : m ≤ most_arcs
  pub tail_least : (i : ℕ) → i < m → 1 ≤ get_or tails i 0
  pub tail_most : (i : ℕ) → i < m → get_or tails i 0 ≤ n
  pub head_least : (i : ℕ) → i < m → 1 ≤ get_or heads i 0
  pub head_most : (i : ℕ) → i < m → get_or heads i 0 ≤ n
  pub weight : (i : ℕ) → i < m → get_or weights i 0 ≤ most_weight

-- .gr: each of the m arcs is open, in a row of closures that is as long as before
pub record GrOpen (m : ℕ) (closures closures' : List ℕ) : Type 0 where
  pub each : (i : ℕ) → i < m → get_or closures' i 0 ≡ 0
  pub long : length closures' ≡ length closures

-- .co: each of the n nodes has its place within limits
pub record CoLimits (n : ℕ) (x y : List ℤ) : Type 0 where
  pub x_least : (i : ℕ) → i < n → least_coordinate ≤ℤ get_or x i (pos 0)
  pub x_most : (i : ℕ) → i < n → get_or x i (pos 0) ≤ℤ most_coordinate
  pub y_least : (i : ℕ) → i < n → least_coordinate ≤ℤ get_or y i (pos 0)
  pub y_most : (i : ℕ) → i < n → get_or y i (pos 0) ≤ℤ most_coordinate

-- .p2p: at most 256 queries for a graph of n nodes, whose sources and targets are nodes of it
pub record P2pLimits (n k : ℕ) (sources targets : List ℕ) : Type 0 where
  pub queries : k ≤ most_queries
  pub source_least : (i : ℕ) → i < k → 1 ≤ get_or sources i 0
  pub source_most : (i : ℕ) → i < k → get_or sources i 0 ≤ n
  pub target_least : (i : ℕ) → i < k → 1 ≤ get_or targets i 0
  pub target_most : (i : ℕ) → i < k → get_or targets i 0 ≤ n
