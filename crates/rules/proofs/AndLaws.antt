-- Two tests joined by `&&`.
use mathlib.Core.Bool.{Bool, true, false, ◌&&◌, false≢true}
use mathlib.Core.Path.{◌≡◌, refl}

-- both pass where they pass together
pub and_true : (a b : Bool) → a && b ≡ true → (a ≡ true) × (b ≡ true)
and_true true b e = (refl, e)
and_true false b e = absurd (false≢true e)

-- where one passes, the other decides
pub and_yes : {a b t : Bool} → a ≡ true → b ≡ t → a && b ≡ t
and_yes p q = rw p q

pub and_no : {a : Bool} (b : Bool) → a ≡ false → a && b ≡ false
and_no b p = rw p

-- two tests that pass together are the same
pub same_test : (a b : Bool) → (a ≡ true → b ≡ true) → (b ≡ true → a ≡ true) → a ≡ b
same_test true true f g = refl
same_test true false f g = absurd (false≢true (f refl))
same_test false true f g = absurd (false≢true (g refl))
same_test false false f g = refl
