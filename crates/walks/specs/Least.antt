-- d(u,t), and the best walks of a search: least length first, then fewest arcs.
use Rattle.std.specs.Prelude.{ℕ, ◌≤◌}
use Rattle.walks.specs.Walk.{Net, Walk}

-- t can be reached from u
pub record Reached (N : Net) (u t : ℕ) : Type 0 where
  pub length : ℕ
  pub count : ℕ
  pub walk : Walk N u t length count

-- d is d(u,t), the least length of a walk from u to t
pub record Dist (N : Net) (u t d : ℕ) : Type 0 where
  pub count : ℕ
  pub walk : Walk N u t d count
  pub least : (l j : ℕ) → Walk N u t l j → d ≤ l

-- For a search from s: d is d(s,u), and k is k(u), the fewest arcs among walks from s to u of length d(s,u)
pub record Best (N : Net) (s u d k : ℕ) : Type 0 where
  pub walk : Walk N s u d k
  pub least : (l j : ℕ) → Walk N s u l j → d ≤ l
  pub fewest : (j : ℕ) → Walk N s u d j → k ≤ j
