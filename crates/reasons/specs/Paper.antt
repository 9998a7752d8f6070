-- What the paper says of an answer.
use Rattle.std.specs.Prelude.{ℕ, List, [], ◌∷◌, Result, Ok, Err}
use Rattle.rules.specs.Paper.{Reply, accepted, refusal}
use Rattle.rules.specs.declared.Refusal.{Refusal}
use Rattle.reasons.specs.declared.Reason.{Reason}
use Rattle.reasons.specs.declared.Reason.TheVariants.{Closed as closed, CutOff as cut_off, Longer as longer, Tied as tied, OnRoute as on_route}
use Rattle.reasons.specs.Reason.{number}

-- the excess is returned with 3 alone
abbrev pub values : Reason → List ℕ
values closed = []
values cut_off = []
values (longer excess) = excess ∷ []
values tied = []
values on_route = []

-- 0 with the reason's number and its values
abbrev pub told : Reason → Reply
told r = accepted (number r ∷ values r)

-- or the refusal
abbrev pub paper : Result Reason Refusal → Reply
paper (Ok r) = told r
paper (Err r) = refusal r
