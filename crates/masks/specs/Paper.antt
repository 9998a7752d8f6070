-- What the paper says of the panel's answer.
use Rattle.std.specs.Prelude.{ℕ, [], ◌∷◌, Result, Ok, Err}
use Rattle.rules.specs.Paper.{Reply, accepted, refusal}
use Rattle.rules.specs.declared.Refusal.{Refusal}

-- 0 with the count of modules, or the refusal
abbrev pub paper : Result ℕ Refusal → Reply
paper (Ok count) = accepted (count ∷ [])
paper (Err r) = refusal r
