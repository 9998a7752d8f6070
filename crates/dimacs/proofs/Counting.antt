-- How many places of a row are taken.
use mathlib.Core.Path.{◌≡◌, refl, sym}
use mathlib.Core.List.{List, [], ◌∷◌}
use mathlib.Core.Bool.{Bool, true, false}
use Prim.Native.Nat.{ℕ, zero, suc, ◌+◌, ◌-◌, ◌≤◌, ◌<◌}
use native.Mathlib.Nat.{le_of_suc-le-suc}
use native.Mathlib.Omega.{arith}
use lib.ListN.{length, get_or, set, replicate}

pub trues : List Bool → ℕ
trues [] = 0
trues (true ∷ t) = suc (trues t)
trues (false ∷ t) = trues t

abbrev pub At : List Bool → ℕ → Type 0
At l i = get_or l i false ≡ true

pub clash : false ≡ true → ⊥
clash e = cc

-- one place more
pub trues_set : (l : List Bool) (i : ℕ) → i < length l → get_or l i false ≡ false → trues (set l i true) ≡ trues l + 1
unfolding trues
trues_set [] i h e = absurd (omega arith)
trues_set (true ∷ t) zero h e = absurd (clash (sym e))
trues_set (false ∷ t) zero h e = omega arith
trues_set (true ∷ t) (suc i) h e = let n = trues_set t i (le_of_suc-le-suc h) e in omega arith
trues_set (false ∷ t) (suc i) h e = trues_set t i (le_of_suc-le-suc h) e

-- at most n of the places below n
few : (l : List Bool) (n : ℕ) → ((i : ℕ) → At l i → i < n) → trues l ≤ n
unfolding trues
few [] n h = omega arith
few (true ∷ t) n h =
    let m = few t (n - 1) (λ i a. let k = h (suc i) a in omega arith) in
    let some = h 0 refl in
    omega arith
few (false ∷ t) n h = let m = few t (n - 1) (λ i a. let k = h (suc i) a in omega arith) in omega arith

-- n of the places below n are all of them
pub full : (l : List Bool) (n : ℕ) → ((i : ℕ) → At l i → i < n) → n ≤ trues l → (i : ℕ) → i < n → At l i
unfolding trues
full [] n h k i low = absurd (omega arith)
full (true ∷ t) n h k zero low = refl
full (true ∷ t) n h k (suc i) low = full t (n - 1) (λ j a. let b = h (suc j) a in omega arith) (omega arith) i (omega arith)
full (false ∷ t) n h k i low = absurd (let m = few t (n - 1) (λ j a. let b = h (suc j) a in omega arith) in omega arith)

-- none at all
pub none-taken : (l : List Bool) → trues l ≡ 0 → (i : ℕ) → At l i → ⊥
unfolding trues
none-taken [] e i a = clash a
none-taken (true ∷ t) e i a = absurd (omega arith)
none-taken (false ∷ t) e zero a = clash a
none-taken (false ∷ t) e (suc i) a = none-taken t e i a

pub trues_none : (n : ℕ) → trues (replicate n false) ≡ 0
unfolding trues
trues_none zero = refl
trues_none (suc n) = trues_none n
