-- Least lengths and best walks are unique; their parts, and that there are some.
use mathlib.Core.Path.{◌≡◌, refl, sym, subst, subst₂}
use Prim.Native.Nat.{ℕ, zero, suc, ◌+◌, ◌≤◌, ◌<◌}
use native.Mathlib.Nat.{le_antisymm}
use native.Mathlib.Omega.{arith}
use native.Mathlib.Decide.{dec_lt}
use Rattle.walks.specs.Walk.{Net, Walk, empty, reverse}
use Rattle.walks.proofs.WalkLaws.{sized, join, backward}
use Rattle.walks.specs.Order.{NotAfter}
use Rattle.walks.specs.Least.{Dist, Best}

pub dist_unique : {N : Net} {u t d d' : ℕ} → Dist N u t d → Dist N u t d' → d ≡ d'
dist_unique p q = le_antisymm (p.least _ _ q.walk) (q.least _ _ p.walk)

pub best_dist : {N : Net} {s u d k : ℕ} → Best N s u d k → Dist N s u d
best_dist {k = k} b = record { count = k; walk = b.walk; least = b.least }

-- no walk comes before the best
pub best_first : {N : Net} {s u d k l j : ℕ} → Best N s u d k → Walk N s u l j → NotAfter d k l j
best_first b w = (b.least _ _ w, λ h. b.fewest _ (sized (sym h) refl w))

pub best_length : {N : Net} {s u d k d' k' : ℕ} → Best N s u d k → Best N s u d' k' → d ≡ d'
best_length p q = dist_unique (best_dist p) (best_dist q)

pub best_count : {N : Net} {s u d k d' k' : ℕ} → Best N s u d k → Best N s u d' k' → k ≡ k'
best_count p q =
    le_antisymm (p.fewest _ (sized (best_length q p) refl q.walk)) (q.fewest _ (sized (best_length p q) refl p.walk))

-- a walk that no walk comes before is the best
pub first_best : {N : Net} {s u d k : ℕ} → Walk N s u d k → ((l j : ℕ) → Walk N s u l j → NotAfter d k l j) → Best N s u d k
first_best w h = record { walk = w; least = λ l j w'. (h l j w').0; fewest = λ j w'. (h _ j w').1 refl }

-- a part of a shortest walk is a shortest walk
module _ {N : Net} {s u t a k b j : ℕ} (w : Walk N s u a k) (r : Walk N u t b j) where
  pub first_part : Dist N s t (a + b) → Dist N s u a
  first_part d = record { count = k; walk = w; least = λ l i w'. omega (arith, d.least _ _ (join w' r)) }

  pub second_part : Dist N s t (a + b) → Dist N u t b
  second_part d = record { count = j; walk = r; least = λ l i r'. omega (arith, d.least _ _ (join w r')) }

  -- and of a best walk, the first part is a best walk
  pub first_part_best : Best N s t (a + b) (k + j) → Best N s u a k
  first_part_best d = record {
    walk = w;
    least = λ l i w'. omega (arith, d.least _ _ (join w' r));
    fewest = λ i w'. omega (arith, d.fewest _ (join w' r));
  }

-- What holds of some number holds of a least one. (There is no finding it here, so the statement is that it cannot be lacking.)
least_below : (P : ℕ → Type 0) (bound n : ℕ) → n < bound → P n → ¬ ¬ ((m : ℕ) × (P m) × ((i : ℕ) → P i → m ≤ i))
least_below P zero n h p none = omega arith
least_below P (suc bound) n h p none = none (n, p, λ i q. elim (dec_lt i n) [ yes lt ↦ absurd (least_below P bound i (omega arith) q none) | no ge ↦ omega arith ])

no_least : (P : ℕ → Type 0) (n : ℕ) → P n → ¬ ¬ ((m : ℕ) × (P m) × ((i : ℕ) → P i → m ≤ i))
no_least P n p = least_below P (suc n) n (omega arith) p

-- where there is a walk, there is a shortest one
pub some_dist : {N : Net} {u t l k : ℕ} → Walk N u t l k → ¬ ¬ ((d : ℕ) × Dist N u t d)
some_dist {N} {u} {t} {l} {k} w none =
    no_least (λ (x : ℕ). (j : ℕ) × Walk N u t x j) l (k, w)
    λ m. none (m.0, record { count = m.1.0; walk = m.1.1; least = λ x j w'. m.2 x (j, w') })

-- the best walk from s to itself is the empty one
pub best_start : (N : Net) (s : ℕ) → Best N s s 0 0
best_start N s = record { walk = empty; least = λ l j w. omega arith; fewest = λ j w. omega arith }

pub best_at : {N : Net} {s u u' d k : ℕ} → u ≡ u' → Best N s u d k → Best N s u' d k
best_at {N} {s} {d = d} {k = k} p b = subst (λ (x : ℕ). Best N s x d k) p b

pub dist_sized : {N : Net} {u t d d' : ℕ} → d ≡ d' → Dist N u t d → Dist N u t d'
dist_sized {N} {u} {t} p x = subst (λ (y : ℕ). Dist N u t y) p x

-- d(u,t) is d(t,u) in the reverse network
pub dist_turned : {N : Net} {u t d : ℕ} → Dist N u t d → Dist (reverse N) t u d
dist_turned x = record { count = x.count; walk = backward x.walk; least = λ l j w. x.least l j (backward w) }

pub best_sized : {N : Net} {s u d k d' k' : ℕ} → d ≡ d' → k ≡ k' → Best N s u d k → Best N s u d' k'
best_sized {N} {s} {u} p q b = subst₂ (λ (x y : ℕ). Best N s u x y) p q b
