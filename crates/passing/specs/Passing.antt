-- Which arcs a search may use: those that pass the tests asked.
use Rattle.std.specs.Prelude.{◌≡◌, Bool, true, false, List, ℕ, ℤ}
use Rattle.rules.specs.declared.Asked.{Asked}
use Rattle.geometry.specs.Box.{Holds}
use Rattle.geometry.specs.Row.{box_of, coordinate}
use Rattle.masks.specs.Mask.{Has}
use Rattle.walks.specs.Walk.{Net, only}
use Rattle.walks.specs.Rows.{at}
use Rattle.passing.specs.Signs.{Signs}

-- arc e's box holds the node t
abbrev pub HoldsNode : List ℤ → List ℤ → List ℤ → ℕ → ℕ → Type 0
HoldsNode x y boxes e t = Holds (box_of boxes e) (coordinate x t) (coordinate y t)

-- arc e's mask has the module of the node t
abbrev pub LightsNode : List ℕ → List ℕ → ℕ → ℕ → Type 0
LightsNode modules masks e t = Has (at masks e) (at modules t)

-- the network of only those arcs whose box holds t, where boxes are asked
abbrev pub by_boxes : Bool → Signs → ℕ → Net → Net
by_boxes true G t N = only (λ e. HoldsNode G.x G.y G.boxes e t) N
by_boxes false G t N = N

-- the network of only those arcs whose mask has t's module, where masks are asked
abbrev pub by_masks : Bool → Signs → ℕ → Net → Net
by_masks true G t N = only (λ e. LightsNode G.modules G.masks e t) N
by_masks false G t N = N

-- the network of only those arcs that pass the tests asked
abbrev pub passing : Asked → Signs → ℕ → Net → Net
passing asked G t N = by_masks asked.masks G t (by_boxes asked.boxes G t N)

-- the tests asked keep the node t for arc e
pub record Keeps (asked : Asked) (G : Signs) (e t : ℕ) : Type 0 where
  pub box : asked.boxes ≡ true → HoldsNode G.x G.y G.boxes e t
  pub mask : asked.masks ≡ true → LightsNode G.modules G.masks e t
