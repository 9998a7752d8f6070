-- What running a list answers.
use Rattle.std.specs.Prelude.{List, ℕ, Result, Ok, Err}
use Rattle.rules.specs.Paper.{refusal}
use Rattle.rules.specs.declared.Refusal.{Refusal}
use Rattle.files.specs.File.{Held, text, unread}
use Rattle.dimacs.specs.Promise.{P2pPromise}
use Rattle.daylist.specs.Paper.{paper}
use Rattle.daylist.specs.declared.Totals.{Totals}
use Rattle.loading.specs.Loading.{Plan}
use Rattle.loading.specs.declared.trouble.Trouble.{Trouble}
use Rattle.loading.specs.declared.trouble.Trouble.TheVariants.{Unread, Refused}
use Rattle.journeys.specs.Prints.{DayOn}
use Rattle.journeys.specs.declared.day.Journeys.{Journeys}

-- the trouble with the file, or the totals, with the queries and their lengths in the rows
pub data Runs (p : Plan) (before : Journeys) : Held → Result Totals Trouble → Journeys → Type 0 where
  run_unread : {after : Journeys} → Runs p before unread (Err Unread) after
  run_refused : {held answers : List ℕ} {r : Refusal} {after : Journeys} → DayOn p held before.lengths (refusal r) answers
      → Runs p before (text held) (Err (Refused r)) after
  ran : {held : List ℕ} {T : Totals} {after : Journeys}
      → P2pPromise held p.sizes.n before.lengths before.sources before.targets (Ok after.count) after.sources after.targets
      → DayOn p held before.lengths (paper (Ok T)) after.lengths
      → Runs p before (text held) (Ok T) after
