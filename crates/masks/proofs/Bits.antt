-- The bits of numbers.
use mathlib.Core.Path.{◌≡◌, refl, ap, ◌∙◌, sym}
use mathlib.Core.Logic.{◌≢◌}
use Prim.Native.Nat.{ℕ, zero, suc, ◌+◌, ◌*◌, ◌/◌, ◌%◌, ◌^◌, ◌≤◌, ◌<◌, max}
use native.Mathlib.Nat.{pow-suc, pow-succ', div-div-eq-div-mul, max-le, one-mul}
use native.Mathlib.Omega.{arith}
use lib.Pow.{shl_exact}
use lib.Bits.{bit_and, bit_or, or_step, and_mask}
use Rattle.masks.specs.Mask.{bit}

pub half_less : (k n : ℕ) → n < 2 ^ suc k → n / 2 < 2 ^ k
half_less k n h = omega (arith, pow-suc 2 k)

pub bit_small : (i n : ℕ) → bit i n < 2
unfolding bit
bit_small zero n = omega arith
bit_small (suc i) n = bit_small i (n / 2)

-- a number is known by its bits
pub bits_same : (k a b : ℕ) → a < 2 ^ k → b < 2 ^ k → ((i : ℕ) → i < k → bit i a ≡ bit i b) → a ≡ b
unfolding bit
bits_same zero a b p q h = omega arith
bits_same (suc k) a b p q h =
    let low = h zero (omega arith) in
    let high = bits_same k (a / 2) (b / 2) (half_less k a p) (half_less k b q) (λ i l. h (suc i) (omega arith)) in
    omega arith

-- a bit by a shift
pub bit_shift : (i n : ℕ) → bit i n ≡ n / 2 ^ i % 2
unfolding bit
bit_shift zero n = ap (λ (x : ℕ). x % 2) (omega arith)
bit_shift (suc i) n =
    let halves : n / 2 ^ suc i ≡ n / 2 / 2 ^ i = ap (λ (x : ℕ). n / x) (pow-succ' 2 i) ∙ sym (div-div-eq-div-mul n 2 (2 ^ i)) in
    bit_shift i (n / 2) ∙ ap (λ (x : ℕ). x % 2) (sym halves)

-- ---- Bits above a number's own are 0

pub bit_zero : (i : ℕ) → bit i 0 ≡ 0
unfolding bit
bit_zero zero = refl
bit_zero (suc i) = bit_zero i

pub bit_high : (k i n : ℕ) → n < 2 ^ k → k ≤ i → bit i n ≡ 0
unfolding bit
bit_high zero i n h l = let e : n ≡ 0 = omega arith in ap (bit i) e ∙ bit_zero i
bit_high (suc k) zero n h l = absurd (omega arith)
bit_high (suc k) (suc i) n h l = bit_high k i (n / 2) (half_less k n h) (omega arith)

-- ---- The bits of a power of 2, and of two numbers joined

pub power_same : (i : ℕ) → bit i (2 ^ i) ≡ 1
unfolding bit
power_same zero = refl
power_same (suc i) = let half : 2 ^ suc i / 2 ≡ 2 ^ i = omega (arith, pow-suc 2 i) in ap (bit i) half ∙ power_same i

pub power_other : (i j : ℕ) → i ≢ j → bit i (2 ^ j) ≡ 0
unfolding bit
power_other zero zero h = absurd (h refl)
power_other zero (suc j) h = omega (arith, pow-suc 2 j)
power_other (suc i) zero h = bit_zero i
power_other (suc i) (suc j) h =
    let half : 2 ^ suc j / 2 ≡ 2 ^ j = omega (arith, pow-suc 2 j) in
    ap (bit i) half ∙ power_other i j (λ e. h (ap suc e))

larger_small : (a b : ℕ) → max (a % 2) (b % 2) < 2
larger_small a b =
    let p : a % 2 ≤ 1 = omega arith in
    let q : b % 2 ≤ 1 = omega arith in
    omega (arith, max-le p q)

pub bit-bit_or : (i a b : ℕ) → bit i (bit_or a b) ≡ max (bit i a) (bit i b)
unfolding bit
bit-bit_or zero a b = ap (λ (x : ℕ). x % 2) (or_step a b) ∙ low (bit_or (a / 2) (b / 2)) (max (a % 2) (b % 2)) (larger_small a b)
  where
    low : (x d : ℕ) → d < 2 → (x * 2 + d) % 2 ≡ d
    low x d h = omega arith
bit-bit_or (suc i) a b =
    ap (λ (x : ℕ). bit i (x / 2)) (or_step a b)
    ∙ ap (bit i) (high (bit_or (a / 2) (b / 2)) (max (a % 2) (b % 2)) (larger_small a b))
    ∙ bit-bit_or i (a / 2) (b / 2)
  where
    high : (x d : ℕ) → d < 2 → (x * 2 + d) / 2 ≡ x
    high x d h = omega arith

-- ---- As the code has them

-- a shift and a test
pub bit_test : (n i : ℕ) → bit_and (n / 2 ^ i) 1 ≡ bit i n
bit_test n i = and_mask (n / 2 ^ i) 1 ∙ sym (bit_shift i n)

-- 1 shifted within 32 bits
pub one_shifted : (i : ℕ) → i < 32 → (1 * 2 ^ i) % 2 ^ 32 ≡ 2 ^ i
one_shifted i h = shl_exact 1 i 32 (omega arith) (omega arith) ∙ one-mul (2 ^ i)
