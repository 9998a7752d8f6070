-- The route shown: of all best walks, the one that the tie rule picks.
use Rattle.std.specs.Prelude.{◌≡◌, List, [], ◌∷◌, ◌++◌, ℕ, ◌+◌, ◌≤◌}
use Rattle.walks.specs.Walk.{Net}
use Rattle.walks.specs.Least.{Best}

-- e is an arc (u,v) with d(s,u) + w = d(s,v) and k(u) + 1 = k(v)
pub record Candidate (N : Net) (s v e : ℕ) : Type 0 where
  pub length : ℕ
  pub count : ℕ
  pub arc : N.Arc e
  pub to : N.head e ≡ v
  pub from : Best N s (N.tail e) length count
  pub best : Best N s v (length + N.weight e) (count + 1)

-- e is the arc into v: the lowest-numbered candidate
pub record Chosen (N : Net) (s v e : ℕ) : Type 0 where
  pub candidate : Candidate N s v e
  pub lowest : (i : ℕ) → Candidate N s v i → e ≤ i

-- `Route N s t arcs`: the arcs, source first, that are traced from t, by the arc into each node, until s is reached
pub data Route (N : Net) (s : ℕ) : ℕ → List ℕ → Type 0 where
  start : Route N s s []
  into : {arcs : List ℕ} {v : ℕ} (e : ℕ) → Chosen N s v e → Route N s (N.tail e) arcs → Route N s v (arcs ++ e ∷ [])
