-- Surplus is not read: the reply is that over the rows cut to the places that are needed.
use Prim.Native.Nat.{ℕ}
use mathlib.Core.Path.{◌≡◌, sym, ◌∙◌, subst}
use mathlib.Core.Logic.{inl, inr}
use mathlib.Core.List.{List}
use Rattle.rules.specs.Paper.{Reply}
use Rattle.walks.specs.Walk.{Net, WalkBy, by_none, by_arc}
use Rattle.walks.specs.Rows.{Rows, laid, network}
use Rattle.walks.specs.Least.{Reached}
use Rattle.judging.specs.Cut.{cut}
use Rattle.judging.proofs.CutLaws.{at_cut, why_judged-cut}
use Rattle.judging.proofs.FineLaws.{why_fine}
use Rattle.walks.proofs.Alike.{Alike, other_way, reached, route, dist, no_walk_alike}
use Rattle.search.proofs.Cut.{network-cut}
use Rattle.reasons.specs.Using.{Uses, BestThrough}
use Rattle.reasons.specs.declared.Reason.{Reason}
use Rattle.reasons.specs.declared.Reason.TheVariants.{Closed as closed, CutOff as cut_off, Longer as longer, Tied as tied, OnRoute as on_route}
use Rattle.reasons.specs.Reason.{True, FirstTrue}
use Rattle.reasons.specs.Says.{Answers, reason, none, WhySays, refused, answered}
use Rattle.reasons.proofs.SaysLaws.{why_unique}

-- ---- Two networks with the same arcs have the same reasons

by_alike : {N F : Net} → Alike N F → {u t l : ℕ} {arcs : List ℕ} → WalkBy N u t l arcs → WalkBy F u t l arcs
by_alike x by_none = by_none
by_alike {F = F} x {t = t} (by_arc {l = l} {arcs = arcs} e a w) =
    let rest = subst (λ (v : ℕ). WalkBy F v t l arcs) (x.head e a) (by_alike x w) in
    rw (x.tail e a, x.weight e a) (by_arc e (x.there e a) rest)

module _ {N F : Net} (x : Alike N F) {s t e : ℕ} where
  uses_alike : {l : ℕ} → Uses N s t e l → Uses F s t e l
  uses_alike u = record { arcs = u.arcs; walk = by_alike x u.walk; among = u.among }

module _ {N F : Net} (x : Alike N F) {s t e : ℕ} where
  best_alike : {l : ℕ} → BestThrough N s t e l → BestThrough F s t e l
  best_alike b = record { walk = uses_alike x b.walk; least = λ j u. b.least j (uses_alike (other_way x) u) }

-- the arc has the same ends in both, be it closed or open
module _ (N F : Net) (x : Alike N F) (s t e : ℕ) (tail : N.tail e ≡ F.tail e) (head : N.head e ≡ F.head e) where
  true_alike : (r : Reason) → True N s t e r → True F s t e r
  true_alike closed h = λ a. h (x.back e a)
  true_alike cut_off (inl h) = inl λ r. h (reached (other_way x) (subst (Reached F s) (sym tail) r))
  true_alike cut_off (inr h) = inr λ r. h (reached (other_way x) (subst (λ (v : ℕ). Reached F v t) (sym head) r))
  true_alike (longer excess) o = record { least = o.least; dist = dist x o.dist; through = best_alike x o.through; more = o.more }
  true_alike tied o = record {
    least = o.least;
    arcs = o.arcs;
    dist = dist x o.dist;
    uses = uses_alike x o.uses;
    route = route x o.route;
    off = o.off;
  }
  true_alike on_route o = record { arcs = o.arcs; route = route x o.route; on = o.on }

module _ (N F : Net) (x : Alike N F) (n s t e : ℕ) (tail : N.tail e ≡ F.tail e) (head : N.head e ≡ F.head e) where
  first_alike : (r : Reason) → FirstTrue N s t e r → FirstTrue F s t e r
  first_alike r p = record {
    true = true_alike N F x s t e tail head r p.true;
    first = λ q low y. p.first q low (true_alike F N (other_way x) s t e (sym tail) (sym head) q y);
  }

  answers_alike : {reply : Reply} → Answers N n s t e reply → Answers F n s t e reply
  answers_alike (reason r y p) = reason r (reached x y) (first_alike r p)
  answers_alike (none h) = none (no_walk_alike x h)

-- ---- The laws

pub why_cut : (n m : ℕ) (R : Rows) (s t arc : ℕ) {reply : Reply} → WhySays n m R s t arc reply → WhySays n m (cut m R) s t arc reply
unfolding laid network
why_cut n m R s t arc (refused e) = refused (why_judged-cut n m R s t arc ∙ e)
why_cut n m R s t arc (answered f a) =
    let p = why_fine n m R s t arc f in
    answered (why_judged-cut n m R s t arc ∙ f)
    (answers_alike (network m R) (network m (cut m R)) (network-cut m R) n s t arc (sym (at_cut m R.tails arc p.1 p.2)) (sym (at_cut m R.heads arc p.1 p.2)) a)

-- two calls whose rows agree on the places that are needed have the same reply
pub why_surplus : (n m : ℕ) (R R' : Rows) → cut m R ≡ cut m R' → (s t arc : ℕ) {reply reply' : Reply}
    → WhySays n m R s t arc reply → WhySays n m R' s t arc reply' → reply ≡ reply'
why_surplus n m R R' rows s t arc p q = why_unique (rw rows at (why_cut n m R s t arc p)) (why_cut n m R' s t arc q)
