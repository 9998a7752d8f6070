-- Walks taken apart and put together.
use mathlib.Core.Path.{◌≡◌, refl, sym, subst}
use mathlib.Core.List.{List, [], ◌∷◌, ◌++◌}
use mathlib.Core.Bool.{Bool, true, Bool-set}
use Prim.Native.Nat.{ℕ, zero, suc, ◌+◌, ◌<◌}
use native.Mathlib.Nat.{add-zero, zero-add}
use native.Mathlib.Omega.{arith}
use lib.ListN.{length, get_or}
use std.Equiv.{◌≃◌, iso_to_equiv}
use std.Univalence.{ua}
use Rattle.walks.specs.Walk.{Net, reverse, only, kept, Walk, empty, then, WalkBy, by_none, by_arc}

module _ {N : Net} where
  -- the same walk, its length and arc count written otherwise
  pub sized : {u v l k l' k' : ℕ} → l ≡ l' → k ≡ k' → Walk N u v l k → Walk N u v l' k'
  sized {u} {v} {k = k} {l' = l'} p q w = subst (λ (y : ℕ). Walk N u v l' y) q (subst (λ (x : ℕ). Walk N u v x k) p w)

  pub ends_at : {u v v' l k : ℕ} → v ≡ v' → Walk N u v l k → Walk N u v' l k
  ends_at {u} {l = l} {k = k} p w = subst (λ (x : ℕ). Walk N u x l k) p w

  pub starts_at : {u u' v l k : ℕ} → u ≡ u' → Walk N u v l k → Walk N u' v l k
  starts_at {v = v} {l = l} {k = k} p w = subst (λ (x : ℕ). Walk N x v l k) p w

  -- one arc more at the end
  pub longer : {u l k : ℕ} {v : ℕ} (e : ℕ) → N.Arc e → N.tail e ≡ v → Walk N u v l k → Walk N u (N.head e) (l + N.weight e) (k + 1)
  longer e a p w = then e a (ends_at (sym p) w)

  -- one arc alone
  pub single : (e : ℕ) → N.Arc e → Walk N (N.tail e) (N.head e) (N.weight e) 1
  single e a = sized (zero-add _) (zero-add _) (then e a empty)

  -- one walk after the other
  pub join : {u v t l k l' k' : ℕ} → Walk N u v l k → Walk N v t l' k' → Walk N u t (l + l') (k + k')
  join w empty = sized (sym (add-zero _)) (sym (add-zero _)) w
  join w (then e a r) = sized (omega arith) (omega arith) (then e a (join w r))

-- a walk, from its last arc to its first, is a walk of the reverse network
pub backward : {N : Net} {u v l k : ℕ} → Walk N u v l k → Walk (reverse N) v u l k
backward empty = empty
backward {N} (then e a w) = sized (omega arith) (omega arith) (join (single {N = reverse N} e a) (backward w))

-- the arcs that a condition keeps are arcs of the network
pub with_all : {N : Net} {Keep : ℕ → Type 0} {u v l k : ℕ} → Walk (only Keep N) u v l k → Walk N u v l k
with_all empty = empty
with_all (then e a w) = then e a.0 (with_all w)

-- ---- Walks by their arcs

module _ {N : Net} where
  pub by_sized : {u t l l' : ℕ} {arcs : List ℕ} → l ≡ l' → WalkBy N u t l arcs → WalkBy N u t l' arcs
  by_sized {u} {t} {arcs = arcs} p w = subst (λ (x : ℕ). WalkBy N u t x arcs) p w

  pub by_walk : {u t l : ℕ} {arcs : List ℕ} → WalkBy N u t l arcs → Walk N u t l (length arcs)
  by_walk by_none = empty
  by_walk (by_arc e a w) = sized refl (omega arith) (join (single e a) (by_walk w))

  -- one arc more at the end
  pub by_longer : {u v l : ℕ} {arcs : List ℕ} (e : ℕ) → N.Arc e → v ≡ N.tail e → WalkBy N u v l arcs → WalkBy N u (N.head e) (l + N.weight e) (arcs ++ e ∷ [])
  by_longer e a p (by_none {u}) = subst (λ (x : ℕ). WalkBy N x (N.head e) (0 + N.weight e) (e ∷ [])) (sym p) (by_sized (omega arith) (by_arc e a by_none))
  by_longer e a p (by_arc i b w) = by_sized (omega arith) (by_arc i b (by_longer e a p w))

  -- each walk is the walk by some arcs
  pub walk_by : {u t l k : ℕ} → Walk N u t l k → (arcs : List ℕ) × WalkBy N u t l arcs
  walk_by empty = ([], by_none)
  walk_by (then e a w) = let x = walk_by w in (x.0 ++ e ∷ [], by_longer e a refl x.1)

-- a walk by arcs of which e is the first: the arc e, and a walk from its head
pub by_first : {N : Net} {u t l e : ℕ} {more : List ℕ} → WalkBy N u t l (e ∷ more) → (r : ℕ) × (N.Arc e) × (l ≡ N.weight e + r) × WalkBy N (N.head e) t r more
by_first (by_arc e a w) = (_, a, refl, w)

-- each of them is an arc of the network
pub by_uses : {N : Net} {u t l : ℕ} {arcs : List ℕ} → WalkBy N u t l arcs → (i : ℕ) → i < length arcs → N.Arc (get_or arcs i 0)
by_uses by_none i h = absurd (omega arith)
by_uses (by_arc e a w) zero h = a
by_uses (by_arc e a w) (suc i) h = by_uses w i (omega arith)

-- ---- A network of which every arc is kept is the network itself

same_arc : (A : Type 0) (b : Bool) → (A → b ≡ true) → (A × (b ≡ true)) ≃ A
same_arc A b h = iso_to_equiv (record { fun = λ x. x.0; inv = λ a. (a, h a); rinv = λ a. refl; linv = λ x i. (x.0, Bool-set b true (h x.0) x.1 i) })

pub kept_each : (N : Net) (keep : ℕ → Bool) → ((e : ℕ) → N.Arc e → keep e ≡ true) → kept keep N ≡ N
kept_each N keep h = λ i. record { Arc = λ e. ua (same_arc (N.Arc e) (keep e) (h e)) i; tail = N.tail; head = N.head; weight = N.weight }
