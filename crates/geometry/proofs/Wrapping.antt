-- The box test by wrapping subtraction: coordinates are shifted, and one comparison tests an axis.
use Rattle.std.proofs.Common.{◌≡◌, ℕ, suc, ◌+◌, ◌-◌, ◌%◌, ◌^◌, ◌<◌, ◌≤◌, Bool, true, false, ◌&&◌, ltb, leb, ℤ, pos, negsuc, ◌+ℤ◌, ◌≤ℤ◌, sym, refl, ap, ◌∙◌, subst, arith, leb→le, to_z-of_z, w32, w64, SFits, to_z, of_z, ltb-true, le-ltb, lt-ltb, le-leb, leb-true}
use borrow.Author.Tests.{lt-leb}
use lib.Signed.{mag, le_z}
use mir.Facts.{sfits_widen}
use Rattle.rules.specs.Limits.{most_coordinate}
use Rattle.rules.proofs.AndLaws.{and_true, and_yes, same_test}
use Rattle.geometry.specs.Box.{Box, Within, WellShaped, sides, nothing}
use Rattle.geometry.specs.Shifted.{shifted, Span}
use Rattle.geometry.proofs.Tests.{yes_le}

-- ---- The shift

shifted_is : (z : ℤ) → mag z < 2 ^ 31 → z +ℤ pos 2_147_483_648 ≡ pos (shifted z)
unfolding shifted
shifted_is (pos n) h = refl
shifted_is (negsuc n) h = rw (le-ltb 2_147_483_648 (suc n) (omega arith)) (ap pos (omega arith))

pub shifted_fits : (z : ℤ) → mag z < 2 ^ 31 → shifted z < 2 ^ 32
unfolding shifted
shifted_fits (pos n) h = omega arith
shifted_fits (negsuc n) h = omega arith

same_order : (a b c d : ℕ) → (a ≤ b → c ≤ d) → (c ≤ d → a ≤ b) → leb a b ≡ leb c d
same_order a b c d f g =
    same_test (leb a b) (leb c d) (λ t. le-leb c d (f (leb-true a b t))) (λ t. le-leb a b (g (leb-true c d t)))

-- it keeps the order
shifted_order : (a b : ℤ) → mag a < 2 ^ 31 → mag b < 2 ^ 31 → le_z a b ≡ leb (shifted a) (shifted b)
unfolding shifted
shifted_order (pos a) (pos b) h k = same_order a b (a + 2_147_483_648) (b + 2_147_483_648) (λ p. omega arith) (λ p. omega arith)
shifted_order (pos a) (negsuc b) h k = sym (lt-leb (a + 2_147_483_648) (2_147_483_647 - b) (omega arith))
shifted_order (negsuc a) (pos b) h k = sym (le-leb (2_147_483_647 - a) (b + 2_147_483_648) (omega arith))
shifted_order (negsuc a) (negsuc b) h k = same_order b a (2_147_483_647 - a) (2_147_483_647 - b) (λ p. omega arith) (λ p. omega arith)

shifted_below : {a b : ℤ} → mag a < 2 ^ 31 → mag b < 2 ^ 31 → a ≤ℤ b → shifted a ≤ shifted b
shifted_below {a} {b} h k l = leb-true (shifted a) (shifted b) (sym (shifted_order a b h k) ∙ yes_le a b l)

-- the sum that the program makes in 64 bits
module _ (z : ℤ) (fits : SFits w32 z) where
  pub wide_fits : SFits w64 (to_z w32 (of_z w32 z))
  wide_fits = rw (to_z-of_z {w = w32} fits) (sfits_widen tt fits)

  sum_is : to_z w64 (of_z w64 (to_z w32 (of_z w32 z))) +ℤ pos 2_147_483_648 ≡ pos (shifted z)
  sum_is = rw (to_z-of_z {w = w64} wide_fits, to_z-of_z {w = w32} fits) (shifted_is z fits.sfits)

  pub sum_fits : SFits w64 (to_z w64 (of_z w64 (to_z w32 (of_z w32 z))) +ℤ pos 2_147_483_648)
  sum_fits = rw sum_is (record { sfits = omega (arith, shifted_fits z fits.sfits) })

  pub sum_read : to_z w64 (of_z w64 (to_z w64 (of_z w64 (to_z w32 (of_z w32 z))) +ℤ pos 2_147_483_648)) ≡ pos (shifted z)
  sum_read = to_z-of_z {w = w64} sum_fits ∙ sum_is

-- ---- One axis

-- p is x less l and q is h + 1 less l, wrapping: p is below q exactly where x is from l to h. Where h is one below l, q is 0.
wraps : (l h x p q : ℕ) → l ≤ h + 1 → h + 1 < 2 ^ 32 → x < 2 ^ 32 → p < 2 ^ 32 → q < 2 ^ 32
    → (p + l) % 2 ^ 32 ≡ x → (q + l) % 2 ^ 32 ≡ h + 1 → ltb p q ≡ leb l x && leb x h
wraps l h x p q across below fx fp fq less width =
    same_test (ltb p q) (leb l x && leb x h)
    (λ t. let r = ltb-true p q t in and_yes (le-leb l x (omega arith)) (le-leb x h (omega arith)))
    (λ t.
    let u = and_true (leb l x) (leb x h) t in
    let r = leb-true l x u.0 in
    let s = leb-true x h u.1 in
    lt-ltb p q (omega arith))

-- the wrapping test of an axis is the test of its two sides
pub axis : (from to z : ℤ) (p q : ℕ) → Span from to → mag from < 2 ^ 31 → mag to < 2 ^ 31 → mag z < 2 ^ 31 → p < 2 ^ 32 → q < 2 ^ 32
    → (p + shifted from) % 2 ^ 32 ≡ shifted z → (q + shifted from) % 2 ^ 32 ≡ shifted to + 1 → ltb p q ≡ le_z from z && le_z z to
axis from to z p q s ff ft fz fp fq less width =
    rw (shifted_order from z ff fz, shifted_order z to fz ft)
    (wraps (shifted from) (shifted to) (shifted z) p q s.across s.below (shifted_fits z fz) fp fq less width)

-- a difference that wraps, and what was taken away, are the number again
wraps_back : (a b : ℕ) → a < 2 ^ 32 → b < 2 ^ 32 → ((a + (2 ^ 32 - b)) % 2 ^ 32 + b) % 2 ^ 32 ≡ a
wraps_back a b h k = omega arith

-- so the test is as the code makes it
pub axis_wraps : (from to z : ℤ) → Span from to → mag from < 2 ^ 31 → mag to < 2 ^ 31 → mag z < 2 ^ 31
    → ltb ((shifted z + (2 ^ 32 - shifted from)) % 2 ^ 32) ((shifted to + 1 + (2 ^ 32 - shifted from)) % 2 ^ 32) ≡ le_z from z && le_z z to
axis_wraps from to z s ff ft fz =
    let start = shifted_fits from ff in
    axis from to z _ _ s ff ft fz (omega arith) (omega arith)
    (wraps_back (shifted z) (shifted from) (shifted_fits z fz) start)
    (wraps_back (shifted to + 1) (shifted from) s.below start)

-- ---- The two axes of a box

within_small : (z : ℤ) → Within z → mag z < 2 ^ 31
within_small (pos n) h = omega (arith, leb→le n 1_000_000 h.below.le)
within_small (negsuc n) h = omega (arith, leb→le n 999_999 h.above.le)

span : {a b : ℤ} → Within a → Within b → a ≤ℤ b → Span a b
unfolding shifted
span {a} {b} h k l =
    let order = shifted_below (within_small a h) (within_small b k) l in
    let most : shifted b ≤ shifted most_coordinate = shifted_below (within_small b k) (omega arith) k.below in
    record { across = omega arith; below = omega arith }

-- the mark's sides: the second is one below the first
no_span : Span (pos 1) (pos 0)
unfolding shifted
no_span = record { across = omega arith; below = omega arith }

-- compared plainly, with the second side less the first and not one more, they would have every number between them
pub plainly_all : (p q : ℕ) → p < 2 ^ 32 → q < 2 ^ 32 → (q + shifted (pos 1)) % 2 ^ 32 ≡ shifted (pos 0) → p ≤ q
unfolding shifted
plainly_all p q fp fq width = omega arith

-- the sides of a well-shaped box
pub span_across : {b : Box} → WellShaped b → Span b.left b.right
span_across (sides s) = span s.left_in s.right_in s.upright.across
span_across (nothing e) = subst (λ (c : Box). Span c.left c.right) (sym e) no_span

pub span_upward : {b : Box} → WellShaped b → Span b.low b.high
span_upward (sides s) = span s.low_in s.high_in s.upright.upward
span_upward (nothing e) = subst (λ (c : Box). Span c.low c.high) (sym e) no_span

-- four tests joined two and two are the four in turn
pub two_axes : (a b c d : Bool) → (a && b) && (c && d) ≡ a && b && c && d
two_axes true true c d = refl
two_axes true false c d = refl
two_axes false b c d = refl
