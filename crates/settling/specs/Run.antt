-- The run: the next node is settled, again and again, until it is the target or none is left.
use Rattle.std.specs.Prelude.{ℕ, zero, suc, ◌+◌, Bool, true, false, cond, eqb, Option, Some, None}
use Rattle.walks.specs.Rows.{Rows}
use Rattle.settling.specs.declared.Labels.{Labels}
use Rattle.settling.specs.declared.Outcome.{Outcome}
use Rattle.settling.specs.Labels.{start_of}
use Rattle.settling.specs.Settle.{settle_of}
use Rattle.settling.specs.Nearest.{nearest_of}

-- n nodes, m arcs, target t; target 0 is never found, so that all that can be reached is settled
module _ (R : Rows) (keep : ℕ → Bool) (n m t : ℕ) where
  -- what is done with the pick when `done` nodes are settled; `go` is the rest of the run
  unfoldable pub after_pick : ℕ → Labels → (Labels → Outcome) → Option ℕ → Outcome
  after_pick done L go None = record { labels = L; count = done; found = false }
  after_pick done L go (Some u) =
      cond (eqb u t) (record { labels = L; count = done + 1; found = true }) (go (settle_of R keep m L u))

  -- for at most so many rounds
  unfoldable pub run_of : ℕ → ℕ → Labels → Outcome
  run_of zero done L = record { labels = L; count = done; found = false }
  run_of (suc fuel) done L = after_pick done L (run_of fuel (done + 1)) (nearest_of L n)

  -- the search from s
  abbrev pub search_of : ℕ → Outcome
  search_of s = run_of n 0 (start_of s)

-- the labels of all that can be reached from s
abbrev pub labels_of : Rows → (ℕ → Bool) → ℕ → ℕ → ℕ → Labels
labels_of R keep n m s = (search_of R keep n m 0 s).labels
