-- The box around a set of nodes, the tight box of an arc, and what an update makes of a box.
use Rattle.std.specs.Prelude.{ℕ, ◌≡◌, ◌⊎◌, List, ℤ}
use Rattle.walks.specs.Walk.{Net}
use Rattle.walks.specs.Through.{InS}
use Rattle.geometry.specs.Box.{Box, Holds, WellShaped, Smallest}
use Rattle.geometry.specs.Row.{coordinate}

-- (px, py) is the place of a node
abbrev pub PlaceOf : List ℤ → List ℤ → ℕ → ℤ → ℤ → Type 0
PlaceOf x y node px py = (px ≡ coordinate x node) × (py ≡ coordinate y node)

-- (px, py) is the place of a node of a set
pub record PlaceIn (x y : List ℤ) (In : ℕ → Type 0) (px py : ℤ) : Type 0 where
  pub node : ℕ
  pub member : In node
  pub place : PlaceOf x y node px py

-- b is the smallest well-shaped box that holds the nodes of a set; where it has none, that is the mark
pub record Around (x y : List ℤ) (In : ℕ → Type 0) (b : Box) : Type 0 where
  pub smallest : Smallest (PlaceIn x y In) b
  pub shaped : WellShaped b

-- The tight box of e: it holds S(e) alone
abbrev pub Tight : Net → List ℤ → List ℤ → ℕ → Box → Type 0
Tight N x y e b = Around x y (InS N e) b

-- What an update makes of arc e's old box: the smallest well-shaped box that holds the old box and the tight box
pub record Updated (N : Net) (x y : List ℤ) (e : ℕ) (old new : Box) : Type 0 where
  pub tight : Box
  pub is_tight : Tight N x y e tight
  pub smallest : Smallest (λ px py. Holds old px py ⊎ Holds tight px py) new
  pub shaped : WellShaped new
