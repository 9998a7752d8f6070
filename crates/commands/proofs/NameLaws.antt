-- Laws of a name's place among those that are known.
use Rattle.std.proofs.Common.{◌≡◌, sym, ℕ, zero, suc, ◌≤◌, List, length, get_or, arith}
use lib.ListN.{get_or-eq_default}

-- a number that is none of those below n
abbrev pub NoneBelow : ℕ → ℕ → Type 0
NoneBelow zero k = Unit {0}
NoneBelow (suc n) k = NoneBelow n k × (k ≡ n → ⊥)

pub none_below : (n k : ℕ) → NoneBelow n k → n ≤ k
none_below zero k h = omega arith
none_below (suc n) k h = let l = none_below n k h.0 in let ne = h.1 in omega (arith, l, ne)

-- where the place is past all of them, there is no such thing
pub unnamed : {A : Type 0} (things : List A) (none : A) {k p : ℕ} → k ≡ p → length things ≤ k → none ≡ get_or things p none
unnamed things none e h = sym (get_or-eq_default things none (omega (arith, e, h)))
