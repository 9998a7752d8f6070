-- Reading a number that was written gives the number, and writing one that was read gives its text.
use mathlib.Core.Path.{◌≡◌, refl, sym, ap, ◌∙◌}
use mathlib.Core.List.{List, [], ◌∷◌, ◌++◌, append_assoc, append-nil}
use mathlib.Core.Bool.{Bool, true, false, cond, ◌&&◌, ◌||◌, not}
use Prim.Native.Nat.{ℕ, zero, suc, ◌+◌, ◌-◌, ◌*◌, ◌/◌, ◌%◌, ◌^◌, ◌≤◌, ◌<◌}
use native.Mathlib.Omega.{arith}
use native.Mathlib.Decide.{dec_le}
use native.Mathlib.Nat.{pow-suc}
use lib.Dec.{eqb, leb, ltb}
use lib.IntN.{ℤ, pos, negsuc}
use lib.ListN.{length, get_or, drop, length-append}
use borrow.Author.Tests.{eq-eqb, ne_eqb, le-leb, lt-ltb, le-ltb, leb-true, eqb-true, eqb-false}
use Rattle.std.specs.Prelude.{Option, Some, None, option_map}
use Rattle.scan.specs.Numbers.{is_digit, value_from, unpadded, natural_of, negated, integer_of}
use Rattle.scan.specs.Decimal.{spelt, decimal, whole}

-- ---- the text of a number by its last digit

spelt_alike : (f g n : ℕ) → n < f → n < g → spelt f n ≡ spelt g n
unfolding spelt
spelt_alike zero g n h k = absurd (omega arith)
spelt_alike (suc f) zero n h k = absurd (omega arith)
spelt_alike (suc f) (suc g) n h k = elim (dec_le 10 n) [
  | yes p ↦ ap (λ (l : List ℕ). cond (ltb n 10) ((48 + n) ∷ []) (l ++ ((48 + n % 10) ∷ []))) (spelt_alike f g (n / 10) (omega arith) (omega arith))
  | no p ↦ let s : n < 10 = omega (arith, p) in rw (lt-ltb n 10 s)
]

pub decimal_one : (n : ℕ) → n < 10 → decimal n ≡ (48 + n) ∷ []
unfolding decimal spelt
decimal_one n h = rw (lt-ltb n 10 h)

pub decimal_more : (n : ℕ) → 10 ≤ n → decimal n ≡ decimal (n / 10) ++ ((48 + n % 10) ∷ [])
unfolding decimal spelt
decimal_more n h = rw (le-ltb n 10 h) (ap (λ (l : List ℕ). l ++ ((48 + n % 10) ∷ [])) (spelt_alike n (suc (n / 10)) (n / 10) (omega arith) (omega arith)))

-- ---- what is written is read

digit_on : (v b : ℕ) (t : List ℕ) → 48 ≤ b → b ≤ 57 → value_from v (b ∷ t) ≡ value_from (10 * v + (b - 48)) t
unfolding value_from
digit_on v b t h k = rw (le-leb 48 b h, le-leb b 57 k)

value_both : (a b : List ℕ) (v u : ℕ) → value_from v a ≡ Some u → value_from v (a ++ b) ≡ value_from u b
unfolding value_from
value_both [] b v u e = let s : v ≡ u = cc in ap (λ (x : ℕ). value_from x b) s
value_both (c ∷ a) b v u e = by_digit (is_digit c) e (value_both a b (10 * v + (c - 48)) u)
  where
    by_digit : (z : Bool) → cond z (value_from (10 * v + (c - 48)) a) None ≡ Some u
        → (value_from (10 * v + (c - 48)) a ≡ Some u → value_from (10 * v + (c - 48)) (a ++ b) ≡ value_from u b)
        → cond z (value_from (10 * v + (c - 48)) (a ++ b)) None ≡ value_from u b
    by_digit true p ih = ih p
    by_digit false p ih = cc

-- what holds of the text of n
pub record Spelling (n : ℕ) (s : List ℕ) : Type 0 where
  pub value : value_from 0 s ≡ Some n
  pub some : 1 ≤ length s
  pub single : n < 10 → length s ≡ 1
  pub leads : 1 ≤ n → get_or s 0 0 ≡ 48 → ⊥
  pub digit_low : (i : ℕ) → i < length s → 48 ≤ get_or s i 0
  pub digit_high : (i : ℕ) → i < length s → get_or s i 0 ≤ 57

get_d_front : (a b : List ℕ) (i : ℕ) → i < length a → get_or (a ++ b) i 0 ≡ get_or a i 0
get_d_front [] b i h = absurd (omega arith)
get_d_front (c ∷ a) b zero h = refl
get_d_front (c ∷ a) b (suc i) h = get_d_front a b i (omega arith)

get_or-last : (a : List ℕ) (c : ℕ) → get_or (a ++ (c ∷ [])) (length a) 0 ≡ c
get_or-last [] c = refl
get_or-last (b ∷ a) c = get_or-last a c

spelling_one : (n : ℕ) → n < 10 → Spelling n ((48 + n) ∷ [])
unfolding value_from
spelling_one n h = record {
  value = rw (le-leb 48 (48 + n) (omega arith), le-leb (48 + n) 57 (omega arith)) (ap Some (omega arith));
  some = omega arith;
  single = λ k. refl;
  leads = λ k e. omega arith;
  digit_low = λ i k. let z : i ≡ 0 = omega arith in rw z (omega arith);
  digit_high = λ i k. let z : i ≡ 0 = omega arith in rw z (omega arith);
}

spelling_more : (n d : ℕ) (s : List ℕ) → 1 ≤ n → d < 10 → Spelling n s → Spelling (10 * n + d) (s ++ ((48 + d) ∷ []))
unfolding value_from
spelling_more n d s low h x =
    let long : length (s ++ ((48 + d) ∷ [])) ≡ length s + 1 = length-append s ((48 + d) ∷ []) in
    record {
      value = value_both s ((48 + d) ∷ []) 0 n x.value ∙ rw (le-leb 48 (48 + d) (omega arith), le-leb (48 + d) 57 (omega arith)) (ap Some (omega arith));
      some = omega (arith, long);
      single = λ k. absurd (omega arith);
      leads = λ k e. x.leads low (sym (get_d_front s ((48 + d) ∷ []) 0 x.some) ∙ e);
      digit_low = λ i k. elim (dec_le (length s) i) [
        | yes p ↦ let z : i ≡ length s = omega (arith, long) in rw (z, get_or-last s (48 + d)) (omega arith)
        | no p ↦ let q : i < length s = omega (arith, p) in rw (get_d_front s ((48 + d) ∷ []) i q) (x.digit_low i q)
      ];
      digit_high = λ i k. elim (dec_le (length s) i) [
        | yes p ↦ let z : i ≡ length s = omega (arith, long) in rw (z, get_or-last s (48 + d)) (omega arith)
        | no p ↦ let q : i < length s = omega (arith, p) in rw (get_d_front s ((48 + d) ∷ []) i q) (x.digit_high i q)
      ];
    }

spelling_below : (f n : ℕ) → n < f → Spelling n (decimal n)
spelling_below zero n h = absurd (omega arith)
spelling_below (suc f) n h = elim (dec_le 10 n) [
  | yes p ↦
      let e : 10 * (n / 10) + n % 10 ≡ n = omega arith in
      rw (decimal_more n p) (rw e at (spelling_more (n / 10) (n % 10) (decimal (n / 10)) (omega arith) (omega arith) (spelling_below f (n / 10) (omega arith))))
  | no p ↦ let s : n < 10 = omega (arith, p) in rw (decimal_one n s) (spelling_one n s)
]

pub spelling : (n : ℕ) → Spelling n (decimal n)
spelling n = spelling_below (suc n) n (omega arith)

pub natural_written : (n : ℕ) → natural_of (decimal n) ≡ Some n
unfolding natural_of
natural_written n =
    let x = spelling n in
    elim (dec_le 10 n) [
      | yes p ↦ rw (le-leb 1 (length (decimal n)) x.some, ne_eqb (get_or (decimal n) 0 0) 48 (x.leads (omega arith)), or_true (eqb (length (decimal n)) 1)) x.value
      | no p ↦ rw (le-leb 1 (length (decimal n)) x.some, eq-eqb (length (decimal n)) 1 (x.single (omega (arith, p)))) x.value
    ]
  where
    or_true : (z : Bool) → z || true ≡ true
    or_true true = refl
    or_true false = refl

pub integer_written : (z : ℤ) → integer_of (whole z) ≡ Some z
unfolding integer_of whole negated
integer_written (pos n) =
    let x = spelling n in
    rw (ne_eqb (get_or (decimal n) 0 0) 45 (λ e. omega (arith, x.digit_low 0 x.some)), natural_written n)
integer_written (negsuc n) = rw (natural_written (suc n))

-- ---- what is read is written

digit_in : (v b : ℕ) (t : List ℕ) (w : ℕ) → value_from v (b ∷ t) ≡ Some w → (48 ≤ b) × (b ≤ 57) × (value_from (10 * v + (b - 48)) t ≡ Some w)
unfolding value_from
digit_in v b t w e = by_tests (leb 48 b) (leb b 57) refl refl e
  where
    by_tests : (p q : Bool) → leb 48 b ≡ p → leb b 57 ≡ q → cond (p && q) (value_from (10 * v + (b - 48)) t) None ≡ Some w
        → (48 ≤ b) × (b ≤ 57) × (value_from (10 * v + (b - 48)) t ≡ Some w)
    by_tests true true h k d = (leb-true _ _ h, leb-true _ _ k, d)
    by_tests true false h k d = cc
    by_tests false q h k d = cc

decimal-next : (v d : ℕ) → 1 ≤ v → d < 10 → decimal (10 * v + d) ≡ decimal v ++ ((48 + d) ∷ [])
decimal-next v d h k =
    let a : (10 * v + d) / 10 ≡ v = omega arith in
    let b : (10 * v + d) % 10 ≡ d = omega arith in
    decimal_more (10 * v + d) (omega arith) ∙ rw (a, b)

value_decimal : (t : List ℕ) (v w : ℕ) → 1 ≤ v → value_from v t ≡ Some w → decimal v ++ t ≡ decimal w
unfolding value_from
value_decimal [] v w h e = let s : v ≡ w = cc in rw (append-nil (decimal v), s)
value_decimal (b ∷ t) v w h e =
    let d = digit_in v b t w e in
    let back : 48 + (b - 48) ≡ b = omega (arith, d.0) in
    let ih = value_decimal t (10 * v + (b - 48)) w (omega arith) d.2 in
    sym (append_assoc (decimal v) (b ∷ []) t) ∙ (ap (λ (l : List ℕ). l ++ t) (sym (rw back at (decimal-next v (b - 48) h (omega (arith, d.0, d.1))))) ∙ ih)

-- a test that a number must pass
number_in : (z : Bool) (x : Option ℕ) (w : ℕ) → cond z x None ≡ Some w → (z ≡ true) × (x ≡ Some w)
number_in true x w e = (refl, e)
number_in false x w e = cc

pub and_in : (a b : Bool) → a && b ≡ true → (a ≡ true) × (b ≡ true)
and_in true b e = (refl, e)
and_in false b e = cc

read_first : (b : ℕ) (t : List ℕ) (w : ℕ) → (b ≡ 48 → ⊥) → value_from 0 (b ∷ t) ≡ Some w → b ∷ t ≡ decimal w
read_first b t w h e =
    let d = digit_in 0 b t w e in
    let back : 48 + (b - 48) ≡ b = omega (arith, d.0) in
    let plainly : 10 * 0 + (b - 48) ≡ b - 48 = omega arith in
    let low : 1 ≤ b - 48 = omega (arith, d.0, h) in
    let v = value_decimal t (b - 48) w low (rw plainly at d.2) in
    rw (decimal_one (b - 48) (omega (arith, d.1)), back) at v

read_one : (b w : ℕ) → value_from 0 (b ∷ []) ≡ Some w → b ∷ [] ≡ decimal w
unfolding value_from
read_one b w e =
    let d = digit_in 0 b [] w e in
    let n = d.2 in
    let same : 10 * 0 + (b - 48) ≡ w = cc in
    let back : 48 + w ≡ b = omega (arith, d.0) in
    rw (decimal_one w (omega (arith, d.1)), back)

not_padded : (p q : Bool) → p ≡ false → p || not q ≡ true → q ≡ false
not_padded false false h e = refl
not_padded false true h e = sym e
not_padded true q h e = let z : true ≡ false = h in cc

pub natural_read : (s : List ℕ) (w : ℕ) → natural_of s ≡ Some w → s ≡ decimal w
unfolding natural_of
natural_read [] w e = cc
natural_read (b ∷ []) w e = read_one b w (number_in (unpadded (b ∷ [])) _ w e).1
natural_read (b ∷ c ∷ t) w e =
    let s = b ∷ c ∷ t in
    let d = number_in (unpadded s) (value_from 0 s) w e in
    let tests = and_in (leb 1 (length s)) (eqb (length s) 1 || not (eqb b 48)) d.0 in
    let many : eqb (length s) 1 ≡ false = ne_eqb (length s) 1 (λ k. omega arith) in
    let first : eqb b 48 ≡ false = not_padded (eqb (length s) 1) (eqb b 48) many tests.1 in
    read_first b (c ∷ t) w (eqb-false b 48 first) d.1

-- ---- the same for numbers that may have a minus

plain_in : (n : Option ℕ) (z : ℤ) → option_map pos n ≡ Some z → (v : ℕ) × (n ≡ Some v) × (z ≡ pos v)
plain_in (Some v) z e = (v, refl, cc)
plain_in None z e = cc

negated_in : (n : Option ℕ) (z : ℤ) → negated n ≡ Some z → (v : ℕ) × (n ≡ Some (suc v)) × (z ≡ negsuc v)
unfolding negated
negated_in (Some zero) z e = cc
negated_in (Some (suc v)) z e = (v, refl, cc)
negated_in None z e = cc

first_is : (s : List ℕ) (b : ℕ) → 1 ≤ b → get_or s 0 0 ≡ b → s ≡ b ∷ drop 1 s
first_is [] b h e = absurd (omega arith)
first_is (c ∷ t) b h e = rw e

pub integer_read : (s : List ℕ) (z : ℤ) → integer_of s ≡ Some z → s ≡ whole z
unfolding integer_of whole
integer_read s z e = by_test (eqb (get_or s 0 0) 45) refl e
  where
    by_test : (q : Bool) → eqb (get_or s 0 0) 45 ≡ q → cond q (negated (natural_of (drop 1 s))) (option_map pos (natural_of s)) ≡ Some z → s ≡ whole z
    by_test true h d =
        let n = negated_in (natural_of (drop 1 s)) z d in
        rw n.2 (first_is s 45 (omega arith) (eqb-true _ _ h) ∙ ap (λ (t : List ℕ). 45 ∷ t) (natural_read (drop 1 s) (suc n.0) n.1))
    by_test false h d =
        let n = plain_in (natural_of s) z d in
        rw n.2 (natural_read s n.0 n.1)

-- ---- how long a number is

pub decimal_long : (k n : ℕ) → n < 10 ^ suc k → length (decimal n) ≤ suc k
decimal_long zero n h = let s : n < 10 = h in rw (decimal_one n s) (omega arith)
decimal_long (suc k) n h = elim (dec_le 10 n) [
  | yes p ↦
      let a : 10 ^ suc (suc k) ≡ 10 ^ suc k * 10 = pow-suc 10 (suc k) in
      let ih = decimal_long k (n / 10) (omega arith) in
      let l = length-append (decimal (n / 10)) ((48 + n % 10) ∷ []) in
      rw (decimal_more n p) (omega (arith, l, ih))
  | no p ↦ let s : n < 10 = omega (arith, p) in rw (decimal_one n s) (omega arith)
]
