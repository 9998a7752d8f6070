-- Judging in the paper's order: tests are tried in turn, and the first refusal decides.
use Rattle.std.specs.Prelude.{ℕ, zero, suc, ◌≤◌, ◌<◌, ◌≡◌, Bool, true, false, List, [], ◌∷◌, Result, Ok, Err}
use Rattle.rules.specs.declared.Refusal.{Refusal}

-- what a step that only judges answers: it is fine, or refused
abbrev pub Judged : Type 0
Judged = Result Unit Refusal

abbrev pub fine : Judged
fine = Ok tt

-- one judgement, and another where it is fine
abbrev pub or_else : Judged → Judged → Judged
or_else (Ok _) j = j
or_else (Err r) j = Err r

-- judgements in turn: the first refusal
abbrev pub in_turn : List Judged → Judged
in_turn [] = fine
in_turn (j ∷ js) = or_else j (in_turn js)

-- a test, and the refusal where it fails
abbrev pub passes : Bool → Refusal → Judged
passes true r = fine
passes false r = Err r

-- a test of each number 1..n, and the refusal of the lowest that fails
module _ (test : ℕ → Bool) (refuse : ℕ → Refusal) where
  unfoldable pub each : ℕ → Judged
  each zero = fine
  each (suc n) = or_else (each n) (passes (test (suc n)) (refuse (suc n)))

-- i is the lowest of 1..n that fails a test
pub record Lowest (test : ℕ → Bool) (n i : ℕ) : Type 0 where
  pub low : 1 ≤ i
  pub high : i ≤ n
  pub fails : test i ≡ false
  pub least : (k : ℕ) → 1 ≤ k → k < i → test k ≡ true

-- whether a judgement is fine
abbrev pub is_fine : Judged → Bool
is_fine (Ok _) = true
is_fine (Err r) = false
