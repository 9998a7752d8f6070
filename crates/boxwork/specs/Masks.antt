-- The mask of an arc.
use Rattle.std.specs.Prelude.{ℕ, ◌^◌, ◌<◌, ◌≡◌, ◌↔◌, List}
use Rattle.masks.specs.Mask.{Has}
use Rattle.walks.specs.Walk.{Net}
use Rattle.walks.specs.Rows.{at}
use Rattle.walks.specs.Through.{InS}

-- S(e) has a node in module j
pub record HasNode (N : Net) (modules : List ℕ) (e j : ℕ) : Type 0 where
  pub node : ℕ
  pub member : InS N e node
  pub inside : at modules node ≡ j

-- the mask of e: an unsigned number of 32 bits, bit module minus 1 set exactly where S(e) has a node in that module
pub record MaskOf (N : Net) (modules : List ℕ) (e mask : ℕ) : Type 0 where
  pub small : mask < 2 ^ 32
  pub exactly : (j : ℕ) → Has mask j ↔ HasNode N modules e j
