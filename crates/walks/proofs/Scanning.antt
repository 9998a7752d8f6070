-- Finding the next node to settle, by one look at each node in ascending order.
use mathlib.Core.Path.{subst}
use mathlib.Core.Logic.{◌≢◌}
use Prim.Native.Nat.{ℕ, suc, ◌≤◌, ◌<◌}
use native.Mathlib.Omega.{arith}
use native.Mathlib.Decide.{ℕ_discrete}
use Rattle.walks.specs.Order.{Less, NotAfter, Before}
use Rattle.walks.proofs.OrderLaws.{less_before, less_NotAfter, before_NotAfter}
use Rattle.walks.specs.Settling.{Labelling, Next}

-- no node below i is left to settle
pub record NoneBelow (L : Labelling) (i : ℕ) : Type 0 where
  pub none : (v : ℕ) → v < i → L.Labelled v → ¬ ¬ L.Settled v

-- of the nodes below i, u is the next
pub record NextBelow (L : Labelling) (i u : ℕ) : Type 0 where
  pub below : u < i
  pub labelled : L.Labelled u
  pub unsettled : ¬ L.Settled u
  pub first : (v : ℕ) → v < i → L.Labelled v → ¬ L.Settled v → v ≢ u → Before (L.length u) (L.arcs u) u (L.length v) (L.arcs v) v

module _ {L : Labelling} {i : ℕ} where
  -- the node i has no label or is settled
  pub none_pass : (L.Labelled i → ¬ ¬ L.Settled i) → NoneBelow L i → NoneBelow L (suc i)
  none_pass h b = record {
    none = λ v lt k. elim (ℕ_discrete v i) [
      | yes e ↦ rw e (h (subst L.Labelled e k))
      | no e ↦ b.none v (omega arith) k
    ];
  }

  pub next_pass : {u : ℕ} → (L.Labelled i → ¬ ¬ L.Settled i) → NextBelow L i u → NextBelow L (suc i) u
  next_pass h b = record {
    below = omega (arith, b.below);
    labelled = b.labelled;
    unsettled = b.unsettled;
    first = λ v lt k o. elim (ℕ_discrete v i) [
      | yes e ↦ absurd (h (subst L.Labelled e k) (subst (λ (x : ℕ). ¬ L.Settled x) e o))
      | no e ↦ b.first v (omega arith) k o
    ];
  }

  -- it is the first to be found
  pub none-take : L.Labelled i → ¬ L.Settled i → NoneBelow L i → NextBelow L (suc i) i
  none-take k o b = record {
    below = omega arith;
    labelled = k;
    unsettled = o;
    first = λ v lt k' o' e. absurd (b.none v (omega arith) k' o');
  }

  -- its label is no earlier than that of the node found before
  pub next_keep : {u : ℕ} → NotAfter (L.length u) (L.arcs u) (L.length i) (L.arcs i) → NextBelow L i u → NextBelow L (suc i) u
  next_keep {u} h b = record {
    below = omega (arith, b.below);
    labelled = b.labelled;
    unsettled = b.unsettled;
    first = λ v lt k o other. elim (ℕ_discrete v i) [
      | yes e ↦ rw e (h.0, λ p. (h.1 p, λ q. b.below))
      | no e ↦ b.first v (omega arith) k o other
    ];
  }

  -- its label is earlier
  pub next-take : {u : ℕ} → L.Labelled i → ¬ L.Settled i → Less (L.length i) (L.arcs i) (L.length u) (L.arcs u) → NextBelow L i u → NextBelow L (suc i) i
  next-take {u} k o h b = record {
    below = omega arith;
    labelled = k;
    unsettled = o;
    first = λ v lt k' o' other. elim (ℕ_discrete v u) [
      | yes e ↦ rw e (less_before h)
      | no e ↦ less_before (less_NotAfter h (before_NotAfter (b.first v (omega arith) k' o' e)))
    ];
  }

-- all nodes are looked at
module _ {L : Labelling} {n : ℕ} (nodes : (v : ℕ) → L.Labelled v → v ≤ n) where
  pub next-found : {u : ℕ} → NextBelow L (suc n) u → Next L u
  next-found b = record { labelled = b.labelled; unsettled = b.unsettled; first = λ v k o e. b.first v (omega (arith, nodes v k)) k o e }

  pub none_found : NoneBelow L (suc n) → (v : ℕ) → L.Labelled v → ¬ ¬ L.Settled v
  none_found b v k = b.none v (omega (arith, nodes v k)) k
