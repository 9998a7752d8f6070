-- Laws of what is told of a refusal.
use Prim.Native.Nat.{ℕ, ◌≤◌}
use mathlib.Core.Path.{◌≡◌, refl, sym, ap, subst, ◌∙◌}
use native.Mathlib.Omega.{arith}
use Rattle.std.specs.Prelude.{List, [], ◌∷◌, ◌++◌, length, drop, get_or}
use Rattle.std.proofs.lemmas.List.{length-take-le}
use Rattle.rules.specs.Paper.{refusal, first_or_0, place_of}
use Rattle.rules.specs.Places.{places}
use Rattle.rules.specs.Told.{Tells}
use Rattle.rules.specs.declared.Refusal.{Refusal}
use Rattle.rules.specs.declared.told.Told.{Told}

-- the zeros that are left stand after the values
pub put_first : (values : List ℕ) → length values ≤ 3 → values ++ drop (length values) (0 ∷ 0 ∷ 0 ∷ []) ≡ places values
put_first [] l = refl
put_first (a ∷ []) l = refl
put_first (a ∷ b ∷ []) l = refl
put_first (a ∷ b ∷ d ∷ []) l = refl
put_first (a ∷ b ∷ d ∷ f ∷ more) l = absurd (omega (arith, l))

-- a refusal whose case is known is told by its line of the table
pub told_by : (told : Told) {r case : Refusal} → r ≡ case → Tells told (refusal case) → Tells told (refusal r)
told_by told e t = subst (λ (x : Refusal). Tells told (refusal x)) (sym e) t

first_place : (values : List ℕ) → get_or (places values) 0 0 ≡ first_or_0 values
first_place [] = refl
first_place (v ∷ values) = refl

-- the first place holds what is printed as the place
pub first_told : (told : Told) (r : Refusal) → Tells told (refusal r) → get_or told.places 0 0 ≡ place_of r
first_told told r t = ap (λ (s : List ℕ). get_or s 0 0) t.2 ∙ first_place (refusal r).values

places_long : (values : List ℕ) → length (places values) ≡ 3
places_long [] = refl
places_long (a ∷ []) = refl
places_long (a ∷ b ∷ []) = refl
places_long (a ∷ b ∷ d ∷ values) = refl

pub told_long : (told : Told) (r : Refusal) → Tells told (refusal r) → length told.places ≡ 3
told_long told r t = ap (length {A = ℕ}) t.2 ∙ places_long (refusal r).values

-- as many values are told as the table has
pub count_told : (told : Told) (r : Refusal) → Tells told (refusal r) → told.count ≡ length (refusal r).values
count_told told r t =
    sym (length-take-le told.count told.places (rw (told_long told r t) told.few)) ∙ ap (length {A = ℕ}) t.1
