-- What a search knows of its labels between two nodes that it settles.
use Rattle.std.specs.Prelude.{ℕ, ◌<◌, ◌≤◌, Bool, ◌≡◌, length, get_or}
use Rattle.walks.specs.Walk.{kept}
use Rattle.walks.specs.Rows.{Rows, laid}
use Rattle.walks.specs.Settling.{Progress, All}
use Rattle.settling.specs.declared.Labels.{Labels}
use Rattle.settling.specs.Labels.{none, length_of, arcs_of}
use Rattle.settling.specs.Seen.{seen}

-- each array has its 512 places
pub record Sized (L : Labels) : Type 0 where
  pub lengths : length L.length ≡ 512
  pub counts : length L.arcs ≡ 512
  pub marks : length L.settled ≡ 512

-- no length is above the mark of no label, and every node after n has that mark
pub record Full (n : ℕ) (L : Labels) : Type 0 where
  pub sized : Sized L
  pub most : (v : ℕ) → 1 ≤ v → v ≤ 512 → length_of L v ≤ none
  pub beyond : (v : ℕ) → n ≤ v → v < 512 → none ≤ get_or L.length v 0

-- a search from s has c nodes settled, and these labels
pub record Stage (R : Rows) (keep : ℕ → Bool) (n m s c : ℕ) (L : Labels) : Type 0 where
  pub progress : Progress (kept keep (laid m R)) n s (seen n L) All c
  pub full : Full n L

-- u is a node, and its label has room for one more arc
pub record Ready (n : ℕ) (L : Labels) (u : ℕ) : Type 0 where
  pub low : 1 ≤ u
  pub high : u ≤ n
  pub length : length_of L u ≤ 511_000_000
  pub arcs : arcs_of L u < n
