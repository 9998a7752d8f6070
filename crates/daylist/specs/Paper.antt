-- What the paper says of the answer.
use Rattle.std.specs.Prelude.{[], ◌∷◌, Result, Ok, Err}
use Rattle.rules.specs.Paper.{Reply, accepted, refusal}
use Rattle.rules.specs.declared.Refusal.{Refusal}
use Rattle.daylist.specs.declared.Totals.{Totals}

-- 0 with how many had a route, how many had none, and the sum of the lengths found; or the refusal
abbrev pub paper : Result Totals Refusal → Reply
paper (Ok T) = accepted (T.found ∷ T.none ∷ T.sum ∷ [])
paper (Err r) = refusal r
