-- Laws of judgements in turn, of a test, and of a test of each number.
use Prim.Native.Nat.{ℕ, zero, suc, ◌+◌, ◌≤◌, ◌<◌}
use mathlib.Core.Path.{◌≡◌, refl, sym, ap, ◌∙◌}
use mathlib.Core.Bool.{Bool, true, false, ◌&&◌, false≢true}
use native.Mathlib.Omega.{arith}
use native.Mathlib.Numerals.{add-one}
use native.Mathlib.Decide.{ℕ_discrete}
use Rattle.rules.specs.Judging.{Judged, fine, or_else, passes, each, Lowest, is_fine}
use Rattle.rules.specs.declared.Refusal.{Refusal}
use Rattle.std.specs.Prelude.{Ok, Err}

pub is_fine_lem : (j : Judged) → is_fine j ≡ true → j ≡ fine
is_fine_lem (Ok _) t = refl
is_fine_lem (Err r) t = absurd (false≢true t)

-- ---- In turn

pub both_fine : (a b : Judged) → or_else a b ≡ fine → (a ≡ fine) × (b ≡ fine)
both_fine (Ok _) b e = (refl, e)
both_fine (Err r) b e = absurd (false≢true (ap is_fine e))

pub nothing_follows : (j : Judged) → or_else j fine ≡ j
nothing_follows (Ok _) = refl
nothing_follows (Err r) = refl

-- a refusal is the whole judgement, whatever would follow
pub refusal_decides : {a j : Judged} {r : Refusal} (rest : Judged) → a ≡ j → a ≡ Err r → a ≡ or_else j rest
refusal_decides rest e h = rw (sym e ∙ h) h

-- a fine one leaves the judgement to the rest
pub rest_decides : {a j b rest : Judged} → a ≡ j → a ≡ fine → b ≡ rest → b ≡ or_else j rest
rest_decides e h k = rw (sym e ∙ h) k

-- ---- A test

pub passed : (t : Bool) (r : Refusal) → passes t r ≡ fine → t ≡ true
passed true r e = refl
passed false r e = ap is_fine e

fine_joined : (j : Judged) (t : Bool) (r : Refusal) → is_fine (or_else j (passes t r)) ≡ is_fine j && t
fine_joined (Ok _) true r = refl
fine_joined (Ok _) false r = refl
fine_joined (Err s) t r = refl

-- ---- A test of each number

module _ (test : ℕ → Bool) (refuse : ℕ → Refusal) where
  -- one number more
  each_suc : (i : ℕ) → each test refuse (i + 1) ≡ or_else (each test refuse i) (passes (test (i + 1)) (refuse (i + 1)))
  unfolding each
  each_suc i = rw add-one

  pub each_none : each test refuse 0 ≡ fine
  unfolding each
  each_none = refl

  pub each_more : (i : ℕ) → each test refuse i ≡ fine → test (i + 1) ≡ true → each test refuse (i + 1) ≡ fine
  each_more i e h = rw (each_suc, e, h)

  pub each_here : (i : ℕ) → each test refuse i ≡ fine → test (i + 1) ≡ false → each test refuse (i + 1) ≡ Err (refuse (i + 1))
  each_here i e h = rw (each_suc, e, h)

  -- what was refused stays refused
  pub each_stays : (r : Refusal) (i n : ℕ) → i ≤ n → each test refuse i ≡ Err r → each test refuse n ≡ Err r
  unfolding each
  each_stays r i zero l e = let same : i ≡ 0 = omega arith in rw same at e
  each_stays r i (suc n) l e = elim (ℕ_discrete i (suc n)) [
    | yes same ↦ rw same at e
    | no other ↦ rw (each_stays r i n (omega arith) e)
  ]

  -- the first failure decides, however many numbers follow
  pub each_first : (i n : ℕ) → each test refuse i ≡ fine → test (i + 1) ≡ false → i < n → each test refuse n ≡ Err (refuse (i + 1))
  each_first i n e h l = each_stays (refuse (i + 1)) (i + 1) n (omega arith) (each_here i e h)

  -- fine: each passes
  pub each_passes : (n : ℕ) → each test refuse n ≡ fine → (i : ℕ) → 1 ≤ i → i ≤ n → test i ≡ true
  unfolding each
  each_passes zero e i low high = absurd (omega arith)
  each_passes (suc n) e i low high =
      let both = both_fine (each test refuse n) (passes (test (suc n)) (refuse (suc n))) e in
      elim (ℕ_discrete i (suc n)) [
        | yes same ↦ ap test same ∙ passed (test (suc n)) (refuse (suc n)) both.1
        | no other ↦ each_passes n both.0 i low (omega arith)
      ]

  pub each_fine : (n : ℕ) → ((i : ℕ) → 1 ≤ i → i ≤ n → test i ≡ true) → each test refuse n ≡ fine
  unfolding each
  each_fine zero h = refl
  each_fine (suc n) h = rw (each_fine n (λ i low high. h i low (omega arith)), h (suc n) (omega arith) (omega arith))

  -- refused: by the lowest that fails
  pub each_lowest : (n i : ℕ) → Lowest test n i → each test refuse n ≡ Err (refuse i)
  each_lowest n zero l = absurd (omega (arith, l.low))
  each_lowest n (suc i) l =
      let e = each_first i n (each_fine i (λ k low high. l.least k low (omega arith))) (ap test (add-one i) ∙ l.fails) (omega (arith, l.high)) in
      e ∙ ap (λ (x : ℕ). Err (refuse x)) (add-one i)

  -- all tests joined by `&&` tell whether it is fine: one number more
  pub each_joined : {good next : Bool} (i : ℕ) → good ≡ is_fine (each test refuse i) → next ≡ test (i + 1) → good && next ≡ is_fine (each test refuse (i + 1))
  each_joined i p q = rw (p, q, each_suc i) (sym (fine_joined (each test refuse i) (test (i + 1)) (refuse (i + 1))))

-- tests that agree on 1..n judge alike
pub each_same : (test test' : ℕ → Bool) (refuse : ℕ → Refusal) (n : ℕ) → ((i : ℕ) → 1 ≤ i → i ≤ n → test i ≡ test' i)
    → each test refuse n ≡ each test' refuse n
unfolding each
each_same test test' refuse zero h = refl
each_same test test' refuse (suc n) h =
    rw (each_same test test' refuse n (λ i low high. h i low (omega arith)), h (suc n) (omega arith) (omega arith))
