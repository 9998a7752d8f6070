-- The lamps of the panel: the modules of a mask, lowest first.
use Rattle.std.specs.Prelude.{ℕ, zero, suc, cond, List, [], ◌∷◌}
use Rattle.masks.specs.Mask.{has_b}

-- of so many modules from j on, those that the mask has
unfoldable pub modules_from : ℕ → ℕ → ℕ → List ℕ
modules_from mask zero j = []
modules_from mask (suc k) j = cond (has_b mask j) (j ∷ modules_from mask k (suc j)) (modules_from mask k (suc j))

-- of the modules 1 to 32
abbrev pub modules_of : ℕ → List ℕ
modules_of mask = modules_from mask 32 1
