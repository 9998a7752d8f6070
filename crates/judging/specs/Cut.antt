-- Rows without their surplus.
use Rattle.std.specs.Prelude.{ℕ, ◌*◌, take}
use Rattle.walks.specs.Rows.{Rows}
use Rattle.passing.specs.Signs.{Signs, signs}

-- the arc rows cut to m places
abbrev pub cut : ℕ → Rows → Rows
cut m R = record { tails = take m R.tails; heads = take m R.heads; weights = take m R.weights; closures = take m R.closures }

-- what is lent beside them, cut to n places for the nodes, and for the arcs to m, four of each box
abbrev pub cut_signs : ℕ → ℕ → Signs → Signs
cut_signs n m G = signs (take n G.x) (take n G.y) (take (4 * m) G.boxes) (take n G.modules) (take m G.masks)
