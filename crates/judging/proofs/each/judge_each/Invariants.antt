-- `judging::each::judge_each` meets its contract. The first loop's invariant: all tells whether the numbers up to i are good. The
-- second's: they are.
use Rattle.std.proofs.Common.{◌≡◌, ℕ, Bool}
use Rattle.rules.specs.Judging.{fine, each, is_fine}
use Rattle.rules.specs.declared.Refusal.{Refusal}
use Rattle.judging.specs.Each.{Tests, Refuses}
use Rattle.judging.proofs.each.judge_each.Given as goal

abbrev pub invariant-loop-i : goal.invariant-loop-i
invariant-loop-i g l =
    (test : ℕ → Bool) (refuse : ℕ → Refusal) → Tests l.count (goal.G-post g l.good) test → Refuses (goal.R-post g l.refusal) refuse
    → l.all ≡ is_fine (each test refuse l.i)

abbrev pub invariant-loop-at : goal.invariant-loop-at
invariant-loop-at g l =
    (test : ℕ → Bool) (refuse : ℕ → Refusal) → Tests l.count (goal.G-post g l.good) test → Refuses (goal.R-post g l.refusal) refuse
    → each test refuse l.at ≡ fine
