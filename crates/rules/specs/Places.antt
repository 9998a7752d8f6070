-- Values in three places.
use Rattle.std.specs.Prelude.{ℕ, List, [], ◌∷◌, ◌++◌, take}

-- the values stand first, zeros after them
abbrev pub places : List ℕ → List ℕ
places values = take 3 (values ++ (0 ∷ 0 ∷ 0 ∷ []))
