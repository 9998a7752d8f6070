-- A number that is held beyond a limit of 32 bits is judged as the number itself.
use Rattle.std.proofs.Common.{◌≡◌, refl, subst, ap, sym, ◌∙◌, ℕ, zero, suc, ◌-◌, ◌≤◌, ◌<◌, min, ℤ, pos, negsuc, cond, leb, Option, Some, None, Ok, Err, arith}
use mir.Syntax.{w32, w64}
use mir.Val.{SFits, to_z, of_z}
use mir.Facts.{to_z_pos, to_z-of_z}
use native.Mathlib.Decide.{dec_le}
use lib.IntN.{neg_ℤ, ◌-ℤ◌, +ℤ_idl}
use borrow.Author.Tests.{le-leb, lt-leb}
use Rattle.scan.specs.Held.{limited, held_natural, held_integer}
use Rattle.commands.specs.Numbers.{count_to, signed_of}
use Rattle.commands.specs.declared.Fault.TheVariants.{Misspelt, BeyondType}

within : {A : Type 0} (most top : ℕ) → most < top → (is : ℕ → A) (not : A) (v : ℕ) → cond (leb (min v top) most) (is (min v top)) not ≡ cond (leb v most) (is v) not
within most top h is not v =
    elim (dec_le v most) [
      | yes k ↦ let e : min v top ≡ v = omega arith in rw e
      | no k ↦ rw (lt-leb (min v top) most (omega arith), lt-leb v most (omega arith))
    ]

pub count_held : (most : ℕ) (m : Option ℕ) → most < 10000000000 → count_to most (held_natural m) ≡ count_to most m
unfolding held_natural count_to
count_held most (Some v) h = within most 10000000000 h Ok (Err BeyondType) v
count_held most None h = refl

pub signed_held : (m : Option ℤ) → signed_of (held_integer m) ≡ signed_of m
unfolding held_integer signed_of
signed_held (Some (pos v)) = within 2147483647 10000000000 (omega arith) (λ x. Ok (pos x)) (Err BeyondType) v
signed_held (Some (negsuc v)) = within 2147483647 9999999999 (omega arith) (λ x. Ok (negsuc x)) (Err BeyondType) v
signed_held None = refl

-- ---- a number by the tests of its limits: n is what was read, m what is spelt

module _ (most : ℕ) (n m : Option ℕ) (low : most < 10000000000) (read : n ≡ held_natural m) where
  pub count_misspelt : n ≡ None → Err Misspelt ≡ count_to most m
  unfolding count_to
  count_misspelt e = ap (count_to most) (sym e ∙ read) ∙ count_held most m low

  pub count_beyond : (v : ℕ) → n ≡ Some v → most < v → Err BeyondType ≡ count_to most m
  unfolding count_to
  count_beyond v e h = sym (ap (λ b. cond b (Ok v) (Err BeyondType)) (lt-leb v most h)) ∙ ap (count_to most) (sym e ∙ read) ∙ count_held most m low

  pub count_fits : (v : ℕ) → n ≡ Some v → v ≤ most → Ok v ≡ count_to most m
  unfolding count_to
  count_fits v e h = sym (ap (λ b. cond b (Ok v) (Err BeyondType)) (le-leb v most h)) ∙ ap (count_to most) (sym e ∙ read) ∙ count_held most m low

module _ (n m : Option ℤ) (read : n ≡ held_integer m) where
  pub signed_misspelt : n ≡ None → Err Misspelt ≡ signed_of m
  unfolding signed_of
  signed_misspelt e = ap signed_of (sym e ∙ read) ∙ signed_held m

  pub signed_is : (z : ℤ) → n ≡ Some z → signed_of (Some z) ≡ signed_of m
  signed_is z e = ap signed_of (sym e ∙ read) ∙ signed_held m

pub count_in_lem : (most v : ℕ) → v ≤ most → Ok v ≡ count_to most (Some v)
unfolding count_to
count_in_lem most v h = rw (le-leb v most h)

limited_fits : (z : ℤ) → SFits w64 (limited 10000000000 z)
limited_fits (pos v) = record { sfits = omega arith }
limited_fits (negsuc v) = record { sfits = omega arith }

held_fits : (n m : Option ℤ) (z : ℤ) → n ≡ held_integer m → n ≡ Some z → SFits w64 z
unfolding held_integer
held_fits n (Some y) z p q = let same : limited 10000000000 y ≡ z = cc in subst (λ x. SFits w64 x) same (limited_fits y)
held_fits n None z p q = cc

-- a number that was read, written as the machine holds it
pub held_back : (n m : Option ℤ) (z : ℤ) → n ≡ held_integer m → n ≡ Some z → to_z w64 (of_z w64 z) ≡ z
held_back n m z p q = to_z-of_z (held_fits n m z p q)

pub signed_within : (z : ℤ) → SFits w32 z → Ok z ≡ signed_of (Some z)
unfolding signed_of
signed_within (pos v) h = rw (le-leb v 2147483647 (omega (arith, h.sfits)))
signed_within (negsuc v) h = rw (le-leb v 2147483647 (omega (arith, h.sfits)))

pub signed_beyond : (z : ℤ) → (SFits w32 z → ⊥) → Err BeyondType ≡ signed_of (Some z)
unfolding signed_of
signed_beyond (pos v) h = elim (dec_le v 2147483647) [ yes k ↦ absurd (h (record { sfits = omega arith })) | no k ↦ rw (lt-leb v 2147483647 (omega arith)) ]
signed_beyond (negsuc v) h = elim (dec_le v 2147483647) [ yes k ↦ absurd (h (record { sfits = omega arith })) | no k ↦ rw (lt-leb v 2147483647 (omega arith)) ]

-- ---- a negative number of 32 bits

less_one : (v : ℕ) → 1 ≤ v → neg_ℤ (pos (v - 1)) -ℤ pos 1 ≡ neg_ℤ (pos v)
less_one zero h = absurd (omega arith)
less_one (suc zero) h = refl
less_one (suc (suc v)) h = let e : suc (suc v) - 1 ≡ suc v = omega arith in rw e (ap (λ (k : ℕ). negsuc (suc k)) (omega arith))

pub negative_fits : (v : ℕ) → v ≤ 2147483648 → SFits w32 (neg_ℤ (pos v))
negative_fits zero h = record { sfits = omega arith }
negative_fits (suc v) h = record { sfits = omega arith }

-- negated in 32 bits, less one
pub negated_is : (v : ℕ) → 1 ≤ v → v ≤ 2147483648 → pos 0 -ℤ to_z w32 (v - 1) ≡ neg_ℤ (pos (v - 1))
negated_is v h k = rw (to_z_pos w32 {n = v - 1} (omega arith)) (+ℤ_idl (neg_ℤ (pos (v - 1))))

pub negative_is : (v : ℕ) → 1 ≤ v → v ≤ 2147483648 → to_z w32 (of_z w32 (pos 0 -ℤ to_z w32 (v - 1))) -ℤ pos 1 ≡ neg_ℤ (pos v)
negative_is v h k = rw (negated_is v h k, to_z-of_z (negative_fits (v - 1) (omega arith))) (less_one v h)
