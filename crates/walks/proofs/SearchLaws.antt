-- A search has only one reply.
use mathlib.Core.Path.{◌≡◌}
use mathlib.Core.List.{List}
use Prim.Native.Nat.{ℕ}
use Rattle.walks.specs.Walk.{Net}
use Rattle.walks.proofs.LeastLaws.{best_length, best_count}
use Rattle.walks.proofs.RouteLaws.{route_unique}
use Rattle.walks.proofs.SettledLaws.{settled_unique}
use Rattle.walks.specs.Search.{Found, NoWalk}

pub record SameReply (d d' k k' c c' : ℕ) (arcs arcs' : List ℕ) : Type 0 where
  pub length : d ≡ d'
  pub count : k ≡ k'
  pub settled : c ≡ c'
  pub route : arcs ≡ arcs'

pub found_unique : {N : Net} {n s t d d' k k' c c' : ℕ} {arcs arcs' : List ℕ}
    → Found N n s t d k c arcs → Found N n s t d' k' c' arcs' → SameReply d d' k k' c c' arcs arcs'
found_unique p q = record {
  length = best_length p.best q.best;
  count = best_count p.best q.best;
  settled = settled_unique p.settled q.settled;
  route = route_unique p.route q.route;
}

pub no_walk_unique : {N : Net} {n s t c c' : ℕ} → NoWalk N n s t c → NoWalk N n s t c' → c ≡ c'
no_walk_unique p q = settled_unique p.settled q.settled

pub not_both : {N : Net} {n s t d k c c' : ℕ} {arcs : List ℕ} → Found N n s t d k c arcs → NoWalk N n s t c' → ⊥
not_both p q = q.none (record { length = _; count = _; walk = p.best.walk })
