-- The order on ℤ, where `lib.Signed` stops: it is transitive, antisymmetric and total, and `smaller` and `larger` are its meet and join.
use Rattle.std.proofs.Common.{◌≡◌, ℕ, ltb, leb, arith, Bool, true, false, cond, not, T, ℤ, pos, negsuc, ◌≤ℤ◌, refl, ap, le_trans, le_of_lt, le_antisymm, le→leb, leb→le}
use Rattle.std.proofs.lemmas.Bool.Decides.{nat_tests}
use lib.Dec.{nleb→lt}
use lib.Signed.{le_z, lt_z, ≤ℤ_refl}
use Rattle.std.specs.Int.{int_min, int_max}
use Rattle.geometry.specs.Hull.{smaller, larger}

trans' : (a b c : ℤ) → T (le_z a b) → T (le_z b c) → T (le_z a c)
trans' (pos a) (pos b) (pos c) h k = le→leb a c (le_trans (leb→le a b h) (leb→le b c k))
trans' (pos a) (pos b) (negsuc c) h k = k
trans' (pos a) (negsuc b) c h k = absurd h
trans' (negsuc a) (pos b) (pos c) h k = tt
trans' (negsuc a) (pos b) (negsuc c) h k = absurd k
trans' (negsuc a) (negsuc b) (pos c) h k = tt
trans' (negsuc a) (negsuc b) (negsuc c) h k = le→leb c a (le_trans (leb→le c b k) (leb→le b a h))

pub ≤ℤ-trans : {a b c : ℤ} → a ≤ℤ b → b ≤ℤ c → a ≤ℤ c
≤ℤ-trans {a} {b} {c} h k = record { le = trans' a b c h.le k.le }

anti' : (a b : ℤ) → T (le_z a b) → T (le_z b a) → a ≡ b
anti' (pos a) (pos b) h k = ap pos (le_antisymm (leb→le a b h) (leb→le b a k))
anti' (pos a) (negsuc b) h k = absurd h
anti' (negsuc a) (pos b) h k = absurd k
anti' (negsuc a) (negsuc b) h k = ap negsuc (le_antisymm (leb→le a b k) (leb→le b a h))

pub ≤ℤ-antisymm : {a b : ℤ} → a ≤ℤ b → b ≤ℤ a → a ≡ b
≤ℤ-antisymm {a} {b} h k = anti' a b h.le k.le

no' : (a b : ℤ) → T (not (le_z a b)) → T (le_z b a)
no' (pos a) (pos b) t = le→leb b a (le_of_lt (nleb→lt a b t))
no' (pos a) (negsuc b) t = tt
no' (negsuc a) (pos b) t = t
no' (negsuc a) (negsuc b) t = le→leb a b (le_of_lt (nleb→lt b a t))

-- a test `a <= b` that failed
pub le_z_no : {a b : ℤ} → T (not (le_z a b)) → b ≤ℤ a
le_z_no {a} {b} t = record { le = no' a b t }

-- a choice by a test
pub pick : (t : Bool) (a b : ℤ) (P : ℤ → Type 0) → (T t → P a) → (T (not t) → P b) → P (cond t a b)
pick true a b P f g = f tt
pick false a b P f g = g tt

module _ (a b : ℤ) where
  pub smaller_left : smaller a b ≤ℤ a
  unfolding smaller
  smaller_left = pick (le_z a b) a b (λ z. z ≤ℤ a) (λ t. ≤ℤ_refl a) (λ t. le_z_no t)

  pub smaller_right : smaller a b ≤ℤ b
  unfolding smaller
  smaller_right = pick (le_z a b) a b (λ z. z ≤ℤ b) (λ t. record { le = t }) (λ t. ≤ℤ_refl b)

  pub larger_left : a ≤ℤ larger a b
  unfolding larger
  larger_left = pick (le_z a b) b a (λ z. a ≤ℤ z) (λ t. record { le = t }) (λ t. ≤ℤ_refl a)

  pub larger_right : b ≤ℤ larger a b
  unfolding larger
  larger_right = pick (le_z a b) b a (λ z. b ≤ℤ z) (λ t. ≤ℤ_refl b) (λ t. le_z_no t)

-- whatever holds of both numbers holds of the smaller and of the larger
pub smaller_both : (P : ℤ → Type 0) {a b : ℤ} → P a → P b → P (smaller a b)
unfolding smaller
smaller_both P {a} {b} p q = pick (le_z a b) a b P (λ t. p) (λ t. q)

pub larger_both : (P : ℤ → Type 0) {a b : ℤ} → P a → P b → P (larger a b)
unfolding larger
larger_both P {a} {b} p q = pick (le_z a b) b a P (λ t. q) (λ t. p)

-- ---- std's least and greatest of two numbers

less_not : (m n : ℕ) → ltb n m ≡ not (leb m n)
less_not m n = grind (arith, nat_tests)

below_not : (a b : ℤ) → lt_z b a ≡ not (le_z a b)
below_not (pos a) (pos b) = less_not a b
below_not (pos a) (negsuc b) = refl
below_not (negsuc a) (pos b) = refl
below_not (negsuc a) (negsuc b) = less_not b a

turned : (t : Bool) (a b : ℤ) → cond (not t) b a ≡ cond t a b
turned true a b = refl
turned false a b = refl

pub min_smaller : (a b : ℤ) → int_min a b ≡ smaller a b
unfolding smaller
min_smaller a b = rw (below_not a b) (turned (le_z a b) a b)

pub max_larger : (a b : ℤ) → int_max a b ≡ larger a b
unfolding larger
max_larger a b = rw (below_not a b) (turned (le_z a b) b a)
