-- Settling a node u: it is marked, and each arc out of it that may be used offers its head a label.
use Rattle.std.specs.Prelude.{ℕ, zero, suc, ◌+◌, Bool, cond, ◌&&◌, get_or, eqb}
use Rattle.walks.specs.Rows.{Rows}
use Rattle.settling.specs.declared.Labels.{Labels}
use Rattle.settling.specs.Labels.{length_of, arcs_of, offered, marked}

-- u's label is (l, k); `keep` tells of an arc number whether that arc may be used
module _ (R : Rows) (keep : ℕ → Bool) (u l k : ℕ) where
  -- the arc at place j, which is arc j + 1
  unfoldable pub arc_step : ℕ → Labels → Labels
  arc_step j L =
      cond (eqb (get_or R.tails j 0) u && keep (j + 1))
      (offered L (get_or R.heads j 0) (l + get_or R.weights j 0) (k + 1))
      L

  -- the arcs 1..j, in order
  unfoldable pub relaxed : Labels → ℕ → Labels
  relaxed L zero = L
  relaxed L (suc j) = arc_step j (relaxed L j)

unfoldable pub settle_of : Rows → (ℕ → Bool) → ℕ → Labels → ℕ → Labels
settle_of R keep m L u = relaxed R keep u (length_of L u) (arcs_of L u) (marked L u) m
