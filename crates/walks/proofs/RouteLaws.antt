-- The route is one only, has k(t) arcs and length d(s,t), and never repeats a node.
use mathlib.Core.Path.{◌≡◌, refl, sym, ap, ap₂, ◌∙◌, subst}
use mathlib.Core.Logic.{◌⊎◌, inl, inr}
use mathlib.Core.List.{List, [], ◌∷◌, ◌++◌}
use Prim.Native.Nat.{ℕ, zero, suc, ◌≤◌}
use native.Mathlib.Nat.{le_antisymm}
use native.Mathlib.Omega.{arith}
use native.Mathlib.Decide.{dec_le}
use lib.ListN.{length, get_or, length-append, get_or-append}
use lib.Seq.{get_or-append_seam}
use Rattle.walks.specs.Walk.{Net, Walk, empty, then, WalkBy, by_none}
use Rattle.walks.proofs.WalkLaws.{single, by_sized, by_longer}
use Rattle.walks.specs.Least.{Best}
use Rattle.walks.proofs.LeastLaws.{best_length, best_count, best_start, best_at, best_sized, first_part_best}
use Rattle.walks.specs.Route.{Candidate, Chosen, Route, start, into}

-- ---- The route is one only

module _ {N : Net} {s : ℕ} where
  chosen_unique : {v v' e e' : ℕ} → v ≡ v' → Chosen N s v e → Chosen N s v' e' → e ≡ e'
  chosen_unique {e = e} {e' = e'} p c c' =
      le_antisymm (c.lowest e' (subst (λ (x : ℕ). Candidate N s x e') (sym p) c'.candidate)) (c'.lowest e (subst (λ (x : ℕ). Candidate N s x e) p c.candidate))

  -- no arc is chosen into s
  chosen_not_start : {v e : ℕ} → v ≡ s → Chosen N s v e → ⊥
  chosen_not_start p c = omega (arith, best_count (best_start N s) (best_at p c.candidate.best))

  same_route : {t t' : ℕ} {arcs arcs' : List ℕ} → t ≡ t' → Route N s t arcs → Route N s t' arcs' → arcs ≡ arcs'
  same_route p start start = refl
  same_route p start (into e c r) = absurd (chosen_not_start (sym p) c)
  same_route p (into e c r) start = absurd (chosen_not_start p c)
  same_route p (into e c r) (into e' c' r') =
      let q : e ≡ e' = chosen_unique p c c' in
      ap₂ (λ (l : List ℕ) (i : ℕ). l ++ i ∷ []) (same_route (ap N.tail q) r r') q

  pub route_unique : {t : ℕ} {arcs arcs' : List ℕ} → Route N s t arcs → Route N s t arcs' → arcs ≡ arcs'
  route_unique r r' = same_route refl r r'

  -- it has k(t) arcs
  pub route_count : {t d k : ℕ} {arcs : List ℕ} → Best N s t d k → Route N s t arcs → length arcs ≡ k
  route_count b start = best_count (best_start N s) b
  route_count b (into {arcs} e c r) =
      length-append arcs (e ∷ []) ∙ omega (arith, route_count c.candidate.from r, best_count b c.candidate.best)

  -- it is a walk from s to t of length d(s,t)
  pub route_walk : {t d k : ℕ} {arcs : List ℕ} → Best N s t d k → Route N s t arcs → WalkBy N s t d arcs
  route_walk b start = by_sized (best_length (best_start N s) b) by_none
  route_walk {d = d} b (into {arcs} e c r) =
      subst (λ (x : ℕ). WalkBy N s x d (arcs ++ e ∷ [])) c.candidate.to
      (by_sized (best_length c.candidate.best b) (by_longer e c.candidate.arc refl (route_walk c.candidate.from r)))

  -- ---- Where a best walk has arcs, there is a candidate to trace back by

  last_arc : {v d k : ℕ} → Walk N s v d k → Best N s v d k → (k ≡ 0) ⊎ ((e : ℕ) × Candidate N s v e)
  last_arc empty b = inl refl
  last_arc (then {l} {k} e a w) b =
      inr (e, record { length = l; count = k; arc = a; to = refl; from = first_part_best w (single e a) b; best = b })

  pub some_candidate : {v d k : ℕ} → Best N s v d k → (k ≡ 0) ⊎ ((e : ℕ) × Candidate N s v e)
  some_candidate b = last_arc b.walk b

  -- and where it has none, v is s
  nowhere : {v d k : ℕ} → Walk N s v d k → k ≡ 0 → v ≡ s
  nowhere empty p = refl
  nowhere (then e a w) p = absurd (omega arith)

  pub no_arcs_start : {v d k : ℕ} → Best N s v d k → k ≡ 0 → v ≡ s
  no_arcs_start b p = nowhere b.walk p

  -- a node with a route has a best walk
  pub route_best : {t : ℕ} {arcs : List ℕ} → Route N s t arcs → (d : ℕ) × (k : ℕ) × Best N s t d k
  route_best start = (0, 0, best_start N s)
  route_best (into e c r) = (_, _, c.candidate.best)

-- ---- It never repeats a node

-- the node after the first i arcs of a route from s
unfoldable pub node_at : Net → ℕ → List ℕ → ℕ → ℕ
node_at N s arcs zero = s
node_at N s arcs (suc i) = N.head (get_or arcs i 0)

module _ (N : Net) (s : ℕ) where
  node_before : (arcs more : List ℕ) (i : ℕ) → i ≤ length arcs → node_at N s (arcs ++ more) i ≡ node_at N s arcs i
  unfolding node_at
  node_before arcs more zero h = refl
  node_before arcs more (suc i) h = ap N.head (get_or-append arcs more 0 i h)

  node_last : (arcs : List ℕ) (e i : ℕ) → i ≡ suc (length arcs) → node_at N s (arcs ++ e ∷ []) i ≡ N.head e
  unfolding node_at
  node_last arcs e i h = ap (node_at N s (arcs ++ e ∷ [])) h ∙ ap N.head (get_or-append_seam arcs e [] 0)

module _ {N : Net} {s : ℕ} where
  -- it is reached by i arcs at the fewest
  node_count : {t : ℕ} {arcs : List ℕ} → Route N s t arcs → (i : ℕ) → i ≤ length arcs → (d : ℕ) × Best N s (node_at N s arcs i) d i
  unfolding node_at
  node_count start zero h = (0, best_start N s)
  node_count start (suc i) h = absurd (omega arith)
  node_count (into {arcs} e c r) i h = elim (dec_le i (length arcs)) [
    | yes le ↦ let x = node_count r i le in (x.0, best_at (sym (node_before N s arcs (e ∷ []) i le)) x.1)
    | no gt ↦
        let k = route_count c.candidate.from r in
        let last : i ≡ suc (length arcs) = omega (arith, length-append arcs (e ∷ [])) in
        (_, best_at (sym (node_last N s arcs e i last ∙ c.candidate.to)) (best_sized refl (omega arith) c.candidate.best))
  ]

  pub never_repeats : {t : ℕ} {arcs : List ℕ} → Route N s t arcs → (i j : ℕ) → i ≤ length arcs → j ≤ length arcs → node_at N s arcs i ≡ node_at N s arcs j → i ≡ j
  never_repeats r i j h h' p = best_count (best_at p (node_count r i h).1) (node_count r j h').1
