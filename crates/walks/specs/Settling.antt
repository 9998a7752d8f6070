-- What a search knows while it settles node after node.
use Rattle.std.specs.Prelude.{◌≡◌, ◌≢◌, ℕ, ◌+◌, ◌≤◌}
use Rattle.walks.specs.Walk.{Net, Walk}
use Rattle.walks.specs.Order.{NotAfter, Before}
use Rattle.walks.specs.Count.{Count}

-- The labels: which nodes have one, which nodes are settled, and each label's length and arc count
pub record Labelling : Type 1 where
  pub Labelled : ℕ → Type 0
  pub Settled : ℕ → Type 0
  pub length : ℕ → ℕ
  pub arcs : ℕ → ℕ

-- The arc e is relaxed: its head's label is no later than its tail's with the arc added
pub record Relaxed (N : Net) (L : Labelling) (e : ℕ) : Type 0 where
  pub labelled : L.Labelled (N.head e)
  pub label : NotAfter (L.length (N.head e)) (L.arcs (N.head e)) (L.length (N.tail e) + N.weight e) (L.arcs (N.tail e) + 1)

-- A search from s among nodes 1..n has c nodes settled; of the arcs out of these, those that `Seen` tells are relaxed
pub record Progress (N : Net) (n s : ℕ) (L : Labelling) (Seen : ℕ → Type 0) (c : ℕ) : Type 0 where
  pub start : L.Labelled s
  pub start-length : L.length s ≡ 0
  pub start-arcs : L.arcs s ≡ 0
  pub either : (v : ℕ) → Dec (L.Settled v)
  pub settled_labelled : (v : ℕ) → L.Settled v → L.Labelled v
  -- each label is that of some walk
  pub walk : (v : ℕ) → L.Labelled v → Walk N s v (L.length v) (L.arcs v)
  pub relaxed : (e : ℕ) → N.Arc e → Seen e → L.Settled (N.tail e) → Relaxed N L e
  -- settled nodes' triples come before all other labelled nodes' triples
  pub order : (u v : ℕ) → L.Settled u → L.Labelled v → ¬ L.Settled v → Before (L.length u) (L.arcs u) u (L.length v) (L.arcs v) v
  pub count : Count L.Settled n c
  pub few : (v : ℕ) → L.Labelled v → L.arcs v ≤ c

-- all arcs
abbrev pub All : ℕ → Type 0
All e = Unit {0}

-- u is the node to be settled next: of the labelled nodes not settled, the one of the first triple
pub record Next (L : Labelling) (u : ℕ) : Type 0 where
  pub labelled : L.Labelled u
  pub unsettled : ¬ L.Settled u
  pub first : (v : ℕ) → L.Labelled v → ¬ L.Settled v → v ≢ u → Before (L.length u) (L.arcs u) u (L.length v) (L.arcs v) v
