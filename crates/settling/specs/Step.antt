-- The outcome of a run that is asked, and where the run stands between two nodes that it settles.
use Rattle.std.specs.Prelude.{ℕ, ◌+◌, ◌≤◌, Bool, ◌≡◌, List}
use Rattle.walks.specs.Judged.{rows_in}
use Rattle.settling.specs.declared.Labels.{Labels}
use Rattle.settling.specs.declared.Outcome.{Outcome}
use Rattle.settling.specs.declared.task.Task.{Task}
use Rattle.passing.specs.Sieving.{keeps_by}
use Rattle.settling.specs.Run.{run_of, search_of}
use Rattle.settling.specs.Stage.{Stage}
use Rattle.settling.specs.Front.{Front}

-- the arcs that the task's run may use
abbrev pub keeps_of : Task → ℕ → Bool
keeps_of a = keeps_by a.sieve a.tracks.closures.now

-- the outcome of the run that is asked
abbrev pub outcome_of : Task → Outcome
outcome_of a = search_of (rows_in a.tracks) (keeps_by a.sieve a.tracks.closures.now) a.tracks.n a.tracks.m a.t a.s

-- the rest of the run, from these labels with `count` nodes settled, gives that outcome
abbrev pub Rest : Task → ℕ → Labels → Type 0
Rest a count L =
    (fuel : ℕ) → fuel + count ≡ a.tracks.n → run_of (rows_in a.tracks) (keeps_of a) a.tracks.n a.tracks.m a.t fuel count L ≡ outcome_of a

-- A run stands here: `count` nodes are settled, these are the labels, this is their tree, and the run goes on to its outcome.
pub record Stands (a : Task) (count : ℕ) (L : Labels) (tree : List ℕ) : Type 0 where
  pub high : count ≤ a.tracks.n
  pub stage : Stage (rows_in a.tracks) (keeps_of a) a.tracks.n a.tracks.m a.s count L
  pub front : Front L tree
  pub rest : Rest a count L
