-- Laws of the rows that are lent, for numbers of any kind.
use mathlib.Core.Path.{◌≡◌, refl, ap, ◌∙◌}
use mathlib.Core.List.{List, [], ◌∷◌, ◌++◌, map}
use Prim.Native.Nat.{ℕ, zero, suc, ◌+◌, ◌≤◌, ◌<◌}
use native.Mathlib.Nat.{le_of_suc-le-suc, not-suc-le-zero}
use native.Mathlib.Numerals.{add-one}
use native.Mathlib.Omega.{arith}
use lib.ListN.{length, get_or, take, drop, set, replicate, length-append, length-replicate, length-drop, get_or-append, get_or-replicate}

-- a store takes the numbers of i lines to those of one more
pub store : {A B : Type 0} (f : A → B) (d : A) (src : List A) (old : List B) (i : ℕ) → i < length src → i < length old
    → set (map f (take i src) ++ drop i old) i (f (get_or src i d)) ≡ map f (take (i + 1) src) ++ drop (i + 1) old
store {A} {B} f d src old i h k = rw (add-one i) (go src old i h k)
  where
    go : (src : List A) (old : List B) (i : ℕ) → i < length src → i < length old
        → set (map f (take i src) ++ drop i old) i (f (get_or src i d)) ≡ map f (take (suc i) src) ++ drop (suc i) old
    go [] old i h k = absurd (not-suc-le-zero h)
    go (x ∷ xs) [] i h k = absurd (not-suc-le-zero k)
    go (x ∷ xs) (y ∷ ys) zero h k = refl
    go (x ∷ xs) (y ∷ ys) (suc i) h k = ap (λ (l : List B). f x ∷ l) (go xs ys i (le_of_suc-le-suc h) (le_of_suc-le-suc k))

-- ---- a row whose first m places become 0

pub opened_each : (m : ℕ) (old : List ℕ) (i : ℕ) → i < m → get_or (replicate m 0 ++ old) i 0 ≡ 0
opened_each m old i h = get_or-append (replicate m 0) old 0 i (simp (length-replicate {A = ℕ} m 0) h) ∙ get_or-replicate m i 0 0 h

pub opened_long : (m : ℕ) (old : List ℕ) → m ≤ length old → length (replicate m 0 ++ drop m old) ≡ length old
opened_long m old h = length-append (replicate m 0) (drop m old) ∙ rw (length-replicate {A = ℕ} m 0, length-drop m old) (omega arith)
