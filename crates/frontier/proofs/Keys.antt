-- The lesser of two keys, and the node of a key.
use Prim.Native.Nat.{ℕ, ◌%◌, ◌<◌, ◌≤◌}
use native.Mathlib.Omega.{arith}
use native.Mathlib.Decide.{dec_lt}
use mathlib.Core.Path.{◌≡◌}
use mathlib.Core.Logic.{◌⊎◌, inl, inr}
use borrow.Author.Tests.{le-leb, lt-leb}
use Rattle.std.specs.Prelude.{min, Some, None}
use Rattle.frontier.specs.Tree.{far, pick_of}

module _ (a b : ℕ) where
  pub min_one : (min a b ≡ a) ⊎ (min a b ≡ b)
  min_one = elim (dec_lt b a) [ yes h ↦ inr (omega arith) | no h ↦ inl (omega arith) ]

  -- what is no greater than both and is one of them
  pub min_eq : {z : ℕ} → z ≤ a → z ≤ b → (z ≡ a) ⊎ (z ≡ b) → z ≡ min a b
  min_eq p q (inl e) = omega arith
  min_eq p q (inr e) = omega arith

pub pick_none : (x : ℕ) → far ≤ x → None ≡ pick_of x
unfolding pick_of
pick_none x h = rw (le-leb far x h)

pub pick_some : (x : ℕ) → x < far → Some (x % 1_024) ≡ pick_of x
unfolding pick_of
pick_some x h = rw (lt-leb far x h)
