-- Demand 3, for any per-arc test: a search over only the arcs that the test keeps answers as one over all arcs,
-- if the test keeps every arc of the shortest walks.
use mathlib.Core.Path.{◌≡◌, sym}
use mathlib.Core.List.{List}
use mathlib.Core.Logic.{◌↔◌}
use Prim.Native.Nat.{ℕ, ◌+◌, ◌≤◌}
use native.Mathlib.Nat.{add-zero, le_antisymm}
use native.Mathlib.Omega.{arith}
use native.Mathlib.Decide.{dec_le}
use Rattle.walks.specs.Walk.{Net, Walk, empty, then, only}
use Rattle.walks.proofs.WalkLaws.{single, join, with_all}
use Rattle.walks.specs.Least.{Reached, Dist, Best}
use Rattle.walks.proofs.LeastLaws.{dist_sized, dist_unique, best_dist, some_dist}
use Rattle.walks.specs.Route.{Candidate, Route, start, into}
use Rattle.walks.proofs.RouteLaws.{route_best}
use Rattle.walks.specs.Through.{Consistent}
use Rattle.walks.proofs.Sparing.{Spares, OnShortest, Between, arc_on, on_into, on_tail, consistent_spares}

-- Two networks answer a search from s to t alike: length, arc count, route, and whether there is a walk
pub record SameAnswers (N F : Net) (s t : ℕ) : Type 0 where
  pub length : (d : ℕ) → Dist N s t d ↔ Dist F s t d
  pub best : (d k : ℕ) → Best N s t d k ↔ Best F s t d k
  pub route : (arcs : List ℕ) → Route N s t arcs ↔ Route F s t arcs
  pub no_walk : (¬ Reached N s t) ↔ (¬ Reached F s t)

module _ {N : Net} {s t : ℕ} {Keep : ℕ → Type 0} (spares : Spares N s t Keep) where
  -- a walk from s that begins a shortest walk to t is kept
  pub kept : {v l k b j : ℕ} → Walk N s v l k → Walk N v t b j → Dist N s t (l + b) → Walk (only Keep N) s v l k
  kept empty r d = empty
  kept (then e a w) r d = then e (a, spares.keeps e (arc_on a w r d)) (kept w (join (single e a) r) (dist_sized (omega arith) d))

  -- ---- Length

  dist_kept : {d : ℕ} → Dist N s t d → Dist (only Keep N) s t d
  dist_kept x = record {
    count = x.count;
    walk = kept x.walk empty (dist_sized (sym (add-zero _)) x);
    least = λ l j w. x.least l j (with_all w);
  }

  dist_back : {d : ℕ} → Dist (only Keep N) s t d → Dist N s t d
  dist_back {d} x = record { count = x.count; walk = with_all x.walk; least = shortest }
    where
      shortest : (l j : ℕ) → Walk N s t l j → d ≤ l
      shortest l j w = elim (dec_le d l) [
        | yes h ↦ h
        | no h ↦ absurd (some_dist w λ y. h (omega (arith, x.least _ _ (dist_kept y.1).walk, y.1.least l j w)))
      ]

  -- ---- Length and arc count, at t and at each node of a shortest walk

  best_kept : {v d k : ℕ} → Between N s t v → Best N s v d k → Best (only Keep N) s v d k
  best_kept o b = record {
    walk = kept b.walk o.onward.walk (dist_sized (omega (arith, dist_unique o.there (best_dist b))) o.whole);
    least = λ l j w. b.least l j (with_all w);
    fewest = λ j w. b.fewest j (with_all w);
  }

  best_back : {v d k : ℕ} → Between N s t v → Best (only Keep N) s v d k → Best N s v d k
  best_back {d = d} o b =
      let p : d ≡ o.before = le_antisymm (b.least _ _ (kept o.there.walk o.onward.walk o.whole)) (o.there.least _ _ (with_all b.walk)) in
      record {
        walk = with_all b.walk;
        least = λ l j w. omega (arith, o.there.least l j w);
        fewest = λ j w. b.fewest j (kept w o.onward.walk (dist_sized (omega arith) o.whole));
      }

  -- ---- The route

  candidate_kept : {v e : ℕ} → Between N s t v → Candidate N s v e → Candidate (only Keep N) s v e
  candidate_kept {v} {e} o c =
      let on : OnShortest N s t e = on_into o c.arc c.to c.from.walk (dist_unique o.there (best_dist c.best)) in
      record {
        length = c.length;
        count = c.count;
        arc = (c.arc, spares.keeps e on);
        to = c.to;
        from = best_kept (on_tail on) c.from;
        best = best_kept o c.best;
      }

  candidate_back : {v e : ℕ} → Between N s t v → Candidate (only Keep N) s v e → Candidate N s v e
  candidate_back {v} {e} o c =
      let on : OnShortest N s t e = on_into o c.arc.0 c.to (with_all c.from.walk) (dist_unique o.there (best_dist (best_back o c.best))) in
      record {
        length = c.length;
        count = c.count;
        arc = c.arc.0;
        to = c.to;
        from = best_back (on_tail on) c.from;
        best = best_back o c.best;
      }

  route-kept : {v : ℕ} {arcs : List ℕ} → Between N s t v → Route N s v arcs → Route (only Keep N) s v arcs
  route-kept o start = start
  route-kept {v} o (into e h r) =
      let c : Candidate N s v e = h.candidate in
      let on : OnShortest N s t e = on_into o c.arc c.to c.from.walk (dist_unique o.there (best_dist c.best)) in
      into e (record { candidate = candidate_kept o c; lowest = λ i x. h.lowest i (candidate_back o x) }) (route-kept (on_tail on) r)

  route_back : {v : ℕ} {arcs : List ℕ} → Between N s t v → Route (only Keep N) s v arcs → Route N s v arcs
  route_back o start = start
  route_back {v} o (into e h r) =
      let c : Candidate N s v e = candidate_back o h.candidate in
      let on : OnShortest N s t e = on_into o c.arc c.to c.from.walk (dist_unique o.there (best_dist c.best)) in
      into e (record { candidate = c; lowest = λ i x. h.lowest i (candidate_kept o x) }) (route_back (on_tail on) r)

  -- t itself is a node of a shortest walk
  at_end : {d : ℕ} → Dist N s t d → Between N s t t
  at_end {d} x = record {
    before = d;
    after = 0;
    there = x;
    onward = record { count = 0; walk = empty; least = λ l j w. omega arith };
    whole = dist_sized (sym (add-zero d)) x;
  }

  -- ---- The theorem

  pub same_answers : SameAnswers N (only Keep N) s t
  same_answers = record {
    length = λ d. (dist_kept, dist_back);
    best = λ d k. ((λ b. best_kept (at_end (best_dist b)) b), (λ b. best_back (at_end (dist_back (best_dist b))) b));
    route = λ arcs. ((λ r. route-kept (at_end (best_dist (route_best r).2)) r), (λ r. route_back (at_end (dist_back (best_dist (route_best r).2))) r));
    no_walk = (
      (λ none r. none (record { length = r.length; count = r.count; walk = with_all r.walk })),
      (λ none r. some_dist r.walk λ d. none (record { length = d.0; count = _; walk = (dist_kept d.1).walk })),
    );
  }

-- Boxes, masks, or whatever else tells of an arc e and a target t whether to use e
pub pruning : {N : Net} {Keep : ℕ → ℕ → Type 0} → Consistent N Keep → (s t : ℕ) → SameAnswers N (only (λ e. Keep e t) N) s t
pruning h s t = same_answers (consistent_spares h s t)
