-- The labels of a search: how they begin, and how a node is labelled, offered a label, or marked as settled.
-- Node v's entries stand at v - 1. A label is a length and an arc count, ordered by length first and then by arc count.
use Rattle.std.specs.Prelude.{ℕ, ◌-◌, Bool, true, false, cond, get_or, set, replicate, ltb, eqb}
use Rattle.settling.specs.declared.Labels.{Labels}

-- the length of a node that has no label
abbrev pub none : ℕ
none = 4_294_967_295

abbrev pub length_of : Labels → ℕ → ℕ
length_of L v = get_or L.length (v - 1) 0

abbrev pub arcs_of : Labels → ℕ → ℕ
arcs_of L v = get_or L.arcs (v - 1) 0

abbrev pub settled_of : Labels → ℕ → Bool
settled_of L v = get_or L.settled (v - 1) false

-- the label (l, k) comes before (l', k')
unfoldable pub before : ℕ → ℕ → ℕ → ℕ → Bool
before l k l' k' = cond (ltb l l') true (cond (eqb l l') (ltb k k') false)

-- the source alone is labelled, by 0 and 0; no node is settled
unfoldable pub start_of : ℕ → Labels
start_of s =
    record {
      length = set (replicate 512 none) (s - 1) 0;
      arcs = replicate 512 0;
      settled = replicate 512 false;
    }

-- node v labelled anew
unfoldable pub labelled : Labels → ℕ → ℕ → ℕ → Labels
labelled L v l k = record { length = set L.length (v - 1) l; arcs = set L.arcs (v - 1) k; settled = L.settled }

-- node v offered a label: it takes it if that comes before its own
unfoldable pub offered : Labels → ℕ → ℕ → ℕ → Labels
offered L v l k = cond (before l k (length_of L v) (arcs_of L v)) (labelled L v l k) L

-- node u marked as settled
unfoldable pub marked : Labels → ℕ → Labels
marked L u = record { length = L.length; arcs = L.arcs; settled = set L.settled (u - 1) true }
