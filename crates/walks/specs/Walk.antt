-- Networks and walks: 01, "Lengths, ties, boxes".
use Rattle.std.specs.Prelude.{◌≡◌, Bool, true, List, [], ◌∷◌, ℕ, ◌+◌}

-- A network. `Arc e` says that e is the number of an arc that may be used; it leads from `tail e` to `head e`.
pub record Net : Type 1 where
  pub Arc : ℕ → Type 0
  pub tail : ℕ → ℕ
  pub head : ℕ → ℕ
  pub weight : ℕ → ℕ

-- the network with every arc turned round
abbrev pub reverse : Net → Net
reverse N = record { Arc = N.Arc; tail = N.head; head = N.tail; weight = N.weight }

-- the network of only those arcs that a condition keeps
abbrev pub only : (ℕ → Type 0) → Net → Net
only Keep N = record { Arc = λ e. N.Arc e × Keep e; tail = N.tail; head = N.head; weight = N.weight }

-- the network of only those arcs that pass a test
abbrev pub kept : (ℕ → Bool) → Net → Net
kept keep N = only (λ e. keep e ≡ true) N

-- `Walk N u v l k`: a chain of k arcs from u to v, each starting where the one before ended, of length l.
-- The empty walk leads from a node to itself and has length 0.
pub data Walk (N : Net) (u : ℕ) : ℕ → ℕ → ℕ → Type 0 where
  empty : Walk N u u 0 0
  then : {l k : ℕ} (e : ℕ) → N.Arc e → Walk N u (N.tail e) l k → Walk N u (N.head e) (l + N.weight e) (k + 1)

-- the walk from u to t by these arcs, in this order, and its length
pub data WalkBy (N : Net) : ℕ → ℕ → ℕ → List ℕ → Type 0 where
  by_none : {u : ℕ} → WalkBy N u u 0 []
  by_arc : {t l : ℕ} {arcs : List ℕ} (e : ℕ) → N.Arc e → WalkBy N (N.head e) t l arcs → WalkBy N (N.tail e) t (N.weight e + l) (e ∷ arcs)
