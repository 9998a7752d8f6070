-- Counting nodes: the laws.
use mathlib.Core.Path.{sym, subst}
use mathlib.Core.Logic.{◌↔◌, ◌≢◌}
use Prim.Native.Nat.{ℕ, zero, suc, ◌≤◌}
use native.Mathlib.Omega.{arith}
use native.Mathlib.Decide.{ℕ_discrete}
use Rattle.walks.specs.Count.{Count, counted, passed, zero_nodes}

-- where no node of P can lack Q, P has no more nodes than Q
pub count_le : {P Q : ℕ → Type 0} {n c c' : ℕ} → ((v : ℕ) → P v → ¬ ¬ Q v) → Count P n c → Count Q n c' → c ≤ c'
count_le h zero_nodes zero_nodes = omega arith
count_le h (counted p x) (counted q y) = omega (arith, count_le h p q)
count_le h (counted p x) (passed q y) = absurd (h _ x y)
count_le h (passed p x) (counted q y) = omega (arith, count_le h p q)
count_le h (passed p x) (passed q y) = count_le h p q

pub count_same : {P Q : ℕ → Type 0} {n c : ℕ} → ((v : ℕ) → 1 ≤ v → v ≤ n → P v ↔ Q v) → Count P n c → Count Q n c
count_same h zero_nodes = zero_nodes
count_same h (counted {n = n} p x) = counted (count_same (λ v a b. h v a (omega arith)) p) ((h (suc n) (omega arith) (omega arith)).0 x)
count_same h (passed {n = n} p x) = passed (count_same (λ v a b. h v a (omega arith)) p) (λ y. x ((h (suc n) (omega arith) (omega arith)).1 y))

pub count_none : {P : ℕ → Type 0} → ((v : ℕ) → ¬ P v) → (n : ℕ) → Count P n 0
count_none h zero = zero_nodes
count_none h (suc n) = passed (count_none h n) (h (suc n))

pub count_most : {P : ℕ → Type 0} {n c : ℕ} → Count P n c → c ≤ n
count_most zero_nodes = omega arith
count_most (counted p x) = omega (arith, count_most p)
count_most (passed p x) = omega (arith, count_most p)

-- one node u more
pub count_more : {P Q : ℕ → Type 0} {n c : ℕ} → (u : ℕ) → 1 ≤ u → u ≤ n → ¬ P u → Q u → ((v : ℕ) → v ≢ u → P v ↔ Q v) → Count P n c → Count Q n (suc c)
count_more u a b x y h zero_nodes = absurd (omega arith)
count_more {P} u a b x y h (counted {n = n} p z) = elim (ℕ_discrete (suc n) u) [
  | yes e ↦ absurd (x (subst P e z))
  | no e ↦ counted (count_more u a (omega arith) x y h p) ((h (suc n) e).0 z)
]
count_more {Q = Q} u a b x y h (passed {n = n} p z) = elim (ℕ_discrete (suc n) u) [
  | yes e ↦ counted (count_same (λ v i j. h v (omega arith)) p) (subst Q (sym e) y)
  | no e ↦ passed (count_more u a (omega arith) x y h p) (λ q. z ((h (suc n) e).1 q))
]
