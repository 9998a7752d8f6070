-- The arcs of each node in a chain of places.
use Rattle.std.specs.Prelude.{ℕ, ◌+◌, ◌-◌, ◌<◌, ◌≤◌, ◌≡◌, List, length, get_or}

-- a row that holds one end of each of m arcs
pub record Ends (m : ℕ) (ends : List ℕ) : Type 0 where
  pub few : m ≤ 2048
  pub long : m ≤ length ends
  pub node : (j : ℕ) → j < m → (1 ≤ get_or ends j 0) × (get_or ends j 0 ≤ 512)

-- c is the first place from j on of an arc that has the end u, or m where there is none
pub record From (m : ℕ) (ends : List ℕ) (u j c : ℕ) : Type 0 where
  pub low : j ≤ c
  pub high : c ≤ m
  pub skips : (i : ℕ) → j ≤ i → i < c → get_or ends i 0 ≡ u → ⊥
  pub holds : c < m → get_or ends c 0 ≡ u

-- node u's first arc is told at place u - 1 of `first`, and the arc after that at place j is told by `next`
pub record Chained (m : ℕ) (ends first next : List ℕ) : Type 0 where
  pub firsts : (u : ℕ) → 1 ≤ u → u ≤ 512 → From m ends u 0 (get_or first (u - 1) 0)
  pub nexts : (j : ℕ) → j < m → From m ends (get_or ends j 0) (j + 1) (get_or next j 0)
