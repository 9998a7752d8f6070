-- S(e), and tests that keep all of it.
use Rattle.std.specs.Prelude.{List, ◌∷◌, ℕ, ◌+◌, ◌≤◌}
use Rattle.walks.specs.Walk.{Net, Walk, WalkBy}
use Rattle.walks.specs.Least.{Dist}

-- t is in S(e): for e = (u,v) of weight w, d(v,t) is defined and w + d(v,t) = d(u,t)
pub record InS (N : Net) (e t : ℕ) : Type 0 where
  pub rest : ℕ
  pub arc : N.Arc e
  pub from_head : Dist N (N.head e) t rest
  pub from_tail : Dist N (N.tail e) t (N.weight e + rest)

-- a test on arcs and targets keeps every node of each S(e)
pub record Consistent (N : Net) (Keep : ℕ → ℕ → Type 0) : Type 0 where
  pub keeps : (e t : ℕ) → InS N e t → Keep e t

-- some walk of least length from e's tail to t has e as its first arc
pub record Begins (N : Net) (e t : ℕ) : Type 0 where
  pub length : ℕ
  pub more : List ℕ
  pub walk : WalkBy N (N.tail e) t length (e ∷ more)
  pub least : (l j : ℕ) → Walk N (N.tail e) t l j → length ≤ l
