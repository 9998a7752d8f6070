-- Walks that use an arc, and the best of them.
use Rattle.std.specs.Prelude.{◌≡◌, ◌⊎◌, List, [], ◌∷◌, ℕ, ◌≤◌}
use Rattle.walks.specs.Walk.{Net, WalkBy}

-- v is one of a list's numbers
abbrev pub Among : ℕ → List ℕ → Type 0
Among v [] = ⊥
Among v (u ∷ us) = (v ≡ u) ⊎ Among v us

-- a walk from s to t of length l uses e
pub record Uses (N : Net) (s t e l : ℕ) : Type 0 where
  pub arcs : List ℕ
  pub walk : WalkBy N s t l arcs
  pub among : Among e arcs

-- the best walk from s to t through e has length l
pub record BestThrough (N : Net) (s t e l : ℕ) : Type 0 where
  pub walk : Uses N s t e l
  pub least : (j : ℕ) → Uses N s t e j → l ≤ j
