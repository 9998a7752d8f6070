-- The best walk through e = (u,v) of weight w has length d(s,u) + w + d(v,t), and there is none exactly when s cannot
-- reach u or v cannot reach t.
use mathlib.Core.Path.{◌≡◌, refl, sym, subst}
use mathlib.Core.Logic.{inl, inr}
use mathlib.Core.List.{List, [], ◌∷◌, ◌++◌}
use Prim.Native.Nat.{ℕ, ◌+◌}
use native.Mathlib.Nat.{le_antisymm}
use native.Mathlib.Omega.{arith}
use Rattle.walks.specs.Walk.{Net, Walk, empty, WalkBy, by_none, by_arc}
use Rattle.walks.proofs.WalkLaws.{single, join, by_sized, by_walk, walk_by}
use Rattle.walks.specs.Least.{Reached, Dist}
use Rattle.reasons.specs.Using.{Among, Uses, BestThrough}
use Rattle.reasons.specs.Claims.{Sum, ThroughSum, NoneThrough}

-- ---- A walk that uses e is a walk to e's tail, then e, then a walk from e's head

pub record Parts (N : Net) (s t e l : ℕ) : Type 0 where
  pub before : ℕ
  pub after : ℕ
  pub before_count : ℕ
  pub after_count : ℕ
  pub arc : N.Arc e
  pub to_tail : Walk N s (N.tail e) before before_count
  pub from_head : Walk N (N.head e) t after after_count
  pub sum : l ≡ before + N.weight e + after

among_after : (e : ℕ) (arcs more : List ℕ) → Among e (arcs ++ e ∷ more)
among_after e [] more = inl refl
among_after e (i ∷ arcs) more = inr (among_after e arcs more)

module _ {N : Net} where
  taken_apart : {s t e l : ℕ} {arcs : List ℕ} → WalkBy N s t l arcs → Among e arcs → Parts N s t e l
  taken_apart by_none m = absurd m
  taken_apart {t = t} (by_arc {l = l} i a w) (inl p) = subst (λ (x : ℕ). Parts N (N.tail i) t x (N.weight i + l)) (sym p) (record {
    before = 0;
    after = l;
    before_count = 0;
    after_count = _;
    arc = a;
    to_tail = empty;
    from_head = by_walk w;
    sum = omega arith;
  })
  taken_apart {e = e} (by_arc i a w) (inr m) =
      let x = taken_apart {e = e} w m in
      record {
        before = N.weight i + x.before;
        after = x.after;
        before_count = _;
        after_count = x.after_count;
        arc = x.arc;
        to_tail = join (single i a) x.to_tail;
        from_head = x.from_head;
        sum = omega (arith, x.sum);
      }

  pub uses_parts : {s t e l : ℕ} → Uses N s t e l → Parts N s t e l
  uses_parts u = taken_apart u.walk u.among

  by_join : {u v t l l' : ℕ} {arcs arcs' : List ℕ} → WalkBy N u v l arcs → WalkBy N v t l' arcs' → WalkBy N u t (l + l') (arcs ++ arcs')
  by_join by_none r = by_sized (omega arith) r
  by_join (by_arc e a w) r = by_sized (omega arith) (by_arc e a (by_join w r))

  pub parts_uses : {s t e a k b j : ℕ} → N.Arc e → Walk N s (N.tail e) a k → Walk N (N.head e) t b j → Uses N s t e (a + N.weight e + b)
  parts_uses {e = e} x w r =
      let p = walk_by w in
      let q = walk_by r in
      record { arcs = p.0 ++ e ∷ q.0; walk = by_sized (omega arith) (by_join p.1 (by_arc e x q.1)); among = among_after e p.0 q.0 }

-- ---- The best

module _ {N : Net} {s t e : ℕ} where
  pub through_unique : {l l' : ℕ} → BestThrough N s t e l → BestThrough N s t e l' → l ≡ l'
  through_unique p q = le_antisymm (p.least _ q.walk) (q.least _ p.walk)

  pub sum_best : {a b : ℕ} → N.Arc e → Dist N s (N.tail e) a → Dist N (N.head e) t b → BestThrough N s t e (a + N.weight e + b)
  sum_best x p q = record {
    walk = parts_uses x p.walk q.walk;
    least = λ j u.
        let y = uses_parts u in
        omega (arith, y.sum, p.least _ _ y.to_tail, q.least _ _ y.from_head);
  }

  best_sum : {l : ℕ} → BestThrough N s t e l → Sum N s t e l
  best_sum h =
      let x = uses_parts h.walk in
      record {
        before = x.before;
        after = x.after;
        arc = x.arc;
        to_tail = record { count = _; walk = x.to_tail; least = λ l j w. omega (arith, x.sum, h.least _ (parts_uses x.arc w x.from_head)) };
        from_head = record { count = _; walk = x.from_head; least = λ l j w. omega (arith, x.sum, h.least _ (parts_uses x.arc x.to_tail w)) };
        sum = x.sum;
      }

  -- ---- And when there is none

  pub uses_reached : {l : ℕ} → Uses N s t e l → Reached N s (N.tail e) × Reached N (N.head e) t
  uses_reached u =
      let x = uses_parts u in
      (record { length = _; count = _; walk = x.to_tail }, record { length = _; count = _; walk = x.from_head })

pub through_sum : ThroughSum
through_sum N s t e l = (best_sum, λ x. subst (BestThrough N s t e) (sym x.sum) (sum_best x.arc x.to_tail x.from_head))

pub none_through : NoneThrough
none_through N s t e x = ((λ none r. none _ (parts_uses x r.0.walk r.1.walk)), (λ apart l u. apart (uses_reached u)))
