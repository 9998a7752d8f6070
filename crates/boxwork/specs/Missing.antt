-- What a look for misses answers.
use Rattle.std.specs.Prelude.{ℕ, Err}
use Rattle.rules.specs.declared.Asked.{Asked}
use Rattle.rules.specs.Judging.{Judged, fine}
use Rattle.rules.specs.declared.Refusal.TheVariants.{Misses}
use Rattle.walks.specs.Walk.{Net}
use Rattle.walks.specs.Through.{Consistent}
use Rattle.walks.specs.Checking.{FirstMissed}
use Rattle.passing.specs.Signs.{Signs}
use Rattle.passing.specs.Passing.{Keeps}

-- what is asked misses nothing, or its first miss is told
pub data Missing (N : Net) (asked : Asked) (G : Signs) : Judged → Type 0 where
  nowhere : Consistent N (Keeps asked G) → Missing N asked G fine
  first : {e t : ℕ} → FirstMissed N (Keeps asked G) e t → Missing N asked G (Err (Misses e t))
