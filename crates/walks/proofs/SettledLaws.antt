-- The settled count is one only.
use mathlib.Core.Path.{◌≡◌, subst₂}
use Prim.Native.Nat.{ℕ, ◌≤◌, suc-le-suc}
use native.Mathlib.Nat.{le_antisymm}
use Rattle.walks.specs.Walk.{Net}
use Rattle.walks.proofs.LeastLaws.{best_length, best_count}
use Rattle.walks.proofs.CountLaws.{count_le}
use Rattle.walks.specs.Settled.{Earlier, Settled, found, missed}

settled_le : {N : Net} {n s t c c' : ℕ} → Settled N n s t c → Settled N n s t c' → c ≤ c'
settled_le {N} {n} {s} {t} (found {d = d} {k = k} b p) (found {d = d'} {k = k'} b' q) =
    suc-le-suc (count_le (λ v e none. none (same e)) p q)
  where
    same : {v : ℕ} → Earlier N s t d k v → Earlier N s t d' k' v
    same {v} e = subst₂ (λ (x y : ℕ). Earlier N s t x y v) (best_length b b') (best_count b b') e
settled_le (found b p) (missed u q) = absurd (u (record { length = _; count = _; walk = b.walk }))
settled_le (missed u p) (found b q) = absurd (u (record { length = _; count = _; walk = b.walk }))
settled_le (missed u p) (missed u' q) = count_le (λ v r none. none r) p q

pub settled_unique : {N : Net} {n s t c c' : ℕ} → Settled N n s t c → Settled N n s t c' → c ≡ c'
settled_unique p q = le_antisymm (settled_le p q) (settled_le q p)
