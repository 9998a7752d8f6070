-- Going along a chain instead of along all places.
use Prim.Native.Nat.{ℕ, zero, suc, ◌+◌, ◌-◌, ◌<◌, ◌≤◌}
use native.Mathlib.Omega.{arith}
use mathlib.Core.Path.{◌≡◌}
use mathlib.Core.List.{List}
use lib.ListN.{get_or}
use Rattle.frontier.specs.Chain.{From}

module _ (P : ℕ → Type 0) (ends : List ℕ) (u : ℕ) (pass : (i : ℕ) → (get_or ends i 0 ≡ u → ⊥) → P i → P (i + 1)) where
  passed : (j d : ℕ) → ((i : ℕ) → j ≤ i → i < j + d → get_or ends i 0 ≡ u → ⊥) → P j → P (j + d)
  passed j zero h p = let e : j + 0 ≡ j = omega arith in rw e p
  passed j (suc d) h p =
      let e : j + suc d ≡ j + d + 1 = omega arith in
      rw e (pass (j + d) (h (j + d) (omega arith) (omega arith)) (passed j d (λ i low high. h i low (omega arith)) p))

  -- what each arc of another node leaves true is true at the chain's next place
  pub along : {m j c : ℕ} → From m ends u j c → P j → P c
  along {m} {j} {c} f p =
      let e : c ≡ j + (c - j) = omega (arith, f.low) in
      rw e (passed j (c - j) (λ i low high. f.skips i low (omega (arith, f.low))) p)
