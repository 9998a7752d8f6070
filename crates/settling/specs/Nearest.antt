-- The node to be settled next: of the labelled nodes not settled, the one whose label comes first, the lower number of two alike.
use Rattle.std.specs.Prelude.{ℕ, zero, suc, ◌+◌, false, not, cond, ◌&&◌, get_or, eqb, Option, Some, None}
use Rattle.settling.specs.declared.Labels.{Labels}
use Rattle.settling.specs.Labels.{none, before}

-- the first so far, with its label; node 0 stands for none
pub record Leader : Type 0 where
  pub node : ℕ
  pub length : ℕ
  pub arcs : ℕ

module _ (L : Labels) where
  -- the node at place v, which is node v + 1, against the first so far
  unfoldable pub better : ℕ → Leader → Leader
  better v b =
      cond (not (get_or L.settled v false) && before (get_or L.length v 0) (get_or L.arcs v 0) b.length b.arcs)
      (record { node = v + 1; length = get_or L.length v 0; arcs = get_or L.arcs v 0 })
      b

  -- of the nodes 1..v
  unfoldable pub leader_of : ℕ → Leader
  leader_of zero = record { node = 0; length = none; arcs = 0 }
  leader_of (suc v) = better v (leader_of v)

unfoldable pub nearest_of : Labels → ℕ → Option ℕ
nearest_of L n = cond (eqb (leader_of L n).node 0) None (Some (leader_of L n).node)
