-- What a test and a refusal, each given as a closure, are to tell of the numbers 1..count.
use Rattle.std.specs.Prelude.{ℕ, ◌+◌, ◌<◌, ◌≡◌, Bool}
use Rattle.rules.specs.declared.Refusal.{Refusal}

-- at each place, counted from 0, the answer is the test of its number
abbrev pub Tests : ℕ → (ℕ → Bool → Type 0) → (ℕ → Bool) → Type 0
Tests count answers test = (i : ℕ) (b : Bool) → i < count → answers i b → b ≡ test (i + 1)

-- of each number the answer is its refusal
abbrev pub Refuses : (ℕ → Refusal → Type 0) → (ℕ → Refusal) → Type 0
Refuses answers refuse = (number : ℕ) (r : Refusal) → answers number r → r ≡ refuse number
