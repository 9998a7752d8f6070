-- What the paper says of a search's answer.
use Rattle.std.specs.Prelude.{[], ◌∷◌, Result, Ok, Err}
use Rattle.rules.specs.Paper.{Reply, accepted, refusal}
use Rattle.rules.specs.declared.Refusal.{Refusal}
use Rattle.search.specs.declared.Found.{Found}

-- 0 with length, arc count and settled count, or the refusal
abbrev pub paper : Result Found Refusal → Reply
paper (Ok f) = accepted (f.length ∷ f.arcs ∷ f.settled ∷ [])
paper (Err r) = refusal r
