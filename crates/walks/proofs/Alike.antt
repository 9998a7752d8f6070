-- Two networks with the same arcs answer every search alike.
use Prim.Native.Nat.{ℕ, ◌+◌}
use mathlib.Core.Path.{◌≡◌, refl, sym, ap}
use mathlib.Core.List.{List}
use Rattle.walks.specs.Walk.{Net, Walk, empty, then}
use Rattle.walks.proofs.WalkLaws.{sized, ends_at, longer}
use Rattle.walks.specs.Least.{Reached, Dist, Best}
use Rattle.walks.proofs.LeastLaws.{best_at}
use Rattle.walks.specs.Through.{InS}
use Rattle.walks.specs.Route.{Candidate, Route, start, into}
use Rattle.walks.proofs.CountLaws.{count_same}
use Rattle.walks.specs.Settled as counts
use Rattle.walks.specs.Search.{Found, NoWalk}

-- the same arcs may be used, and each has the same ends and weight in both
pub record Alike (N F : Net) : Type 0 where
  pub there : (e : ℕ) → N.Arc e → F.Arc e
  pub back : (e : ℕ) → F.Arc e → N.Arc e
  pub tail : (e : ℕ) → N.Arc e → N.tail e ≡ F.tail e
  pub head : (e : ℕ) → N.Arc e → N.head e ≡ F.head e
  pub weight : (e : ℕ) → N.Arc e → N.weight e ≡ F.weight e

pub other_way : {N F : Net} → Alike N F → Alike F N
other_way x = record {
  there = x.back;
  back = x.there;
  tail = λ e a. sym (x.tail e (x.back e a));
  head = λ e a. sym (x.head e (x.back e a));
  weight = λ e a. sym (x.weight e (x.back e a));
}

walk : {N F : Net} → Alike N F → {u v l k : ℕ} → Walk N u v l k → Walk F u v l k
walk x empty = empty
walk x (then {l = l} e a w) = ends_at (sym (x.head e a)) (sized (ap (λ (y : ℕ). l + y) (sym (x.weight e a))) refl (longer e (x.there e a) (sym (x.tail e a)) (walk x w)))

pub reached : {N F : Net} → Alike N F → {u v : ℕ} → Reached N u v → Reached F u v
reached x r = record { length = r.length; count = r.count; walk = walk x r.walk }

module _ {N F : Net} (x : Alike N F) {s : ℕ} where
  best : {v d k : ℕ} → Best N s v d k → Best F s v d k
  best b = record {
    walk = walk x b.walk;
    least = λ l j w. b.least l j (walk (other_way x) w);
    fewest = λ j w. b.fewest j (walk (other_way x) w);
  }

  candidate : {v e : ℕ} → Candidate N s v e → Candidate F s v e
  candidate {v} {e} c = record {
    length = c.length;
    count = c.count;
    arc = x.there e c.arc;
    to = rw (← x.head e c.arc) c.to;
    from = best_at (x.tail e c.arc) (best c.from);
    best = rw (← x.weight e c.arc) (best c.best);
  }

module _ {N F : Net} (x : Alike N F) {s : ℕ} where
  pub route : {t : ℕ} {arcs : List ℕ} → Route N s t arcs → Route F s t arcs
  route start = start
  route (into {arcs = arcs} e c r) =
      into {arcs = arcs} e
      (record { candidate = candidate x c.candidate; lowest = λ i y. c.lowest i (candidate (other_way x) y) })
      (rw (← x.tail e c.candidate.arc) (route r))

  earlier : {t d k v : ℕ} → counts.Earlier N s t d k v → counts.Earlier F s t d k v
  earlier e = record { length = e.length; count = e.count; best = best x e.best; before = e.before }

module _ {N F : Net} (x : Alike N F) {n s t : ℕ} where
  settled : {c : ℕ} → counts.Settled N n s t c → counts.Settled F n s t c
  settled (counts.found b p) = counts.found (best x b) (count_same (λ v low high. (earlier x, earlier (other_way x))) p)
  settled (counts.missed h p) = counts.missed (λ r. h (reached (other_way x) r)) (count_same (λ v low high. (reached x, reached (other_way x))) p)

  pub found_alike : {d k c : ℕ} {arcs : List ℕ} → Found N n s t d k c arcs → Found F n s t d k c arcs
  found_alike f = record { best = best x f.best; settled = settled f.settled; route = route x f.route }

  pub no_walk_alike : {c : ℕ} → NoWalk N n s t c → NoWalk F n s t c
  no_walk_alike f = record { none = λ r. f.none (reached (other_way x) r); settled = settled f.settled }

-- S(e) is the same in both
module _ {N F : Net} (x : Alike N F) where
  pub dist : {u t d : ℕ} → Dist N u t d → Dist F u t d
  dist p = record { count = p.count; walk = walk x p.walk; least = λ l j w. p.least l j (walk (other_way x) w) }

  pub InS_alike : {e t : ℕ} → InS N e t → InS F e t
  InS_alike {e} i =
      let a = i.arc in
      record {
        rest = i.rest;
        arc = x.there e a;
        from_head = rw (← x.head e a) (dist i.from_head);
        from_tail = rw (← x.tail e a, ← x.weight e a) (dist i.from_tail);
      }
