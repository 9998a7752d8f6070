-- Exactly one reason is the first that is true; it follows from d(s,u), d(v,t), d(s,t) and the route.
use mathlib.Core.Path.{◌≡◌, refl, sym, ap₂, ◌∙◌, subst}
use mathlib.Core.Logic.{inl, inr, ◌≢◌}
use mathlib.Core.List.{List}
use Prim.Native.Nat.{ℕ, zero, suc, ◌+◌, ◌-◌, ◌≤◌, ◌<◌}
use native.Mathlib.Omega.{arith}
use native.Mathlib.Decide.{ℕ_discrete, dec_lt}
use Rattle.walks.specs.Walk.{Net}
use Rattle.walks.proofs.WalkLaws.{single, join, by_sized}
use Rattle.walks.specs.Least.{Dist}
use Rattle.walks.proofs.LeastLaws.{dist_unique, best_dist}
use Rattle.walks.specs.Route.{Route}
use Rattle.walks.proofs.RouteLaws.{route_unique, route_best, route_walk}
use Rattle.reasons.specs.Using.{Among, Uses, BestThrough}
use Rattle.reasons.proofs.UsingLaws.{uses_reached, through_unique, sum_best}
use Rattle.reasons.specs.declared.Reason.{Reason}
use Rattle.reasons.specs.declared.Reason.TheVariants.{Closed as closed, CutOff as cut_off, Longer as longer, Tied as tied, OnRoute as on_route}
use Rattle.reasons.specs.Reason.{number, Longer, Tied, OnRoute, True, FirstTrue}

number_range : (r : Reason) → (1 ≤ number r) × (number r ≤ 5)
number_range closed = (omega arith, omega arith)
number_range cut_off = (omega arith, omega arith)
number_range (longer excess) = (omega arith, omega arith)
number_range tied = (omega arith, omega arith)
number_range on_route = (omega arith, omega arith)

module _ {N : Net} {s t e : ℕ} where
  -- the route is a walk of length d(s,t)
  pub on_route_uses : {d : ℕ} → OnRoute N s t e → Dist N s t d → Uses N s t e d
  on_route_uses o x =
      let b = route_best o.route in
      record { arcs = o.arcs; walk = by_sized (dist_unique (best_dist b.2) x) (route_walk b.2 o.route); among = o.on }

  -- ---- No two of 2 to 5 are true

  uses_not_cut : {l : ℕ} → Uses N s t e l → True N s t e cut_off → ⊥
  uses_not_cut u (inl h) = h (uses_reached u).0
  uses_not_cut u (inr h) = h (uses_reached u).1

  longer_not_uses : {x d : ℕ} → Longer N s t e x → Dist N s t d → Uses N s t e d → ⊥
  longer_not_uses o x u = omega (arith, o.more, o.through.least _ u, dist_unique o.dist x)

  -- from 3 on some walk uses e, and from 4 on one of length d(s,t) does
  some_uses : (r : Reason) → 2 < number r → True N s t e r → (l : ℕ) × Uses N s t e l
  some_uses closed h x = absurd (omega arith)
  some_uses cut_off h x = absurd (omega arith)
  some_uses (longer excess) h x = (_, x.through.walk)
  some_uses tied h x = (_, x.uses)
  some_uses on_route h x = (_, on_route_uses x (best_dist (route_best x.route).2))

  least_uses : (r : Reason) → 3 < number r → True N s t e r → (d : ℕ) × (Dist N s t d) × Uses N s t e d
  least_uses closed h x = absurd (omega arith)
  least_uses cut_off h x = absurd (omega arith)
  least_uses (longer excess) h x = absurd (omega arith)
  least_uses tied h x = (_, x.dist, x.uses)
  least_uses on_route h x = let b = best_dist (route_best x.route).2 in (_, b, on_route_uses x b)

  tied_not_on : (r : Reason) → 4 < number r → Tied N s t e → True N s t e r → ⊥
  tied_not_on closed h o x = omega arith
  tied_not_on cut_off h o x = omega arith
  tied_not_on (longer excess) h o x = omega arith
  tied_not_on tied h o x = omega arith
  tied_not_on on_route h o x = o.off (subst (Among e) (route_unique x.route o.route) x.on)

module _ (N : Net) (s t e : ℕ) where
  no_two : (q r : Reason) → N.Arc e → number q < number r → True N s t e q → True N s t e r → ⊥
  no_two closed r a h x y = x a
  no_two cut_off r a h x y = uses_not_cut (some_uses r h y).1 x
  no_two (longer excess) r a h x y = let z = least_uses r h y in longer_not_uses x z.1 z.2
  no_two tied r a h x y = tied_not_on r h x y
  no_two on_route r a h x y = omega (arith, number_range r)

module _ {N : Net} {s t e : ℕ} where
  -- so what is true of an open arc is the first that is
  pub true_first : (r : Reason) → N.Arc e → True N s t e r → FirstTrue N s t e r
  true_first r a x = record { true = x; first = λ q h y. no_two N s t e q r a h y x }

  pub closed_first : ¬ N.Arc e → FirstTrue N s t e closed
  closed_first x = record { true = x; first = λ q h y. omega (arith, number_range q) }

-- ---- The reason is one only

-- the value beside the number: the excess, or 0
abbrev pub value : Reason → ℕ
value closed = 0
value cut_off = 0
value (longer excess) = excess
value tied = 0
value on_route = 0

-- number and value tell the reason
reason_of : ℕ → ℕ → Reason
reason_of zero x = closed
reason_of (suc zero) x = closed
reason_of (suc (suc zero)) x = cut_off
reason_of (suc (suc (suc zero))) x = longer x
reason_of (suc (suc (suc (suc zero)))) x = tied
reason_of (suc (suc (suc (suc (suc n))))) x = on_route

reason_back : (r : Reason) → reason_of (number r) (value r) ≡ r
unfolding reason_of
reason_back closed = refl
reason_back cut_off = refl
reason_back (longer excess) = refl
reason_back tied = refl
reason_back on_route = refl

pub same_reason : (q r : Reason) → number q ≡ number r → value q ≡ value r → q ≡ r
same_reason q r p v = sym (reason_back q) ∙ ap₂ reason_of p v ∙ reason_back r

no_value : (r : Reason) → number r ≢ 3 → value r ≡ 0
no_value closed h = refl
no_value cut_off h = refl
no_value (longer excess) h = absurd (h refl)
no_value tied h = refl
no_value on_route h = refl

module _ {N : Net} {s t e : ℕ} where
  is_longer : (r : Reason) → number r ≡ 3 → True N s t e r → Longer N s t e (value r)
  is_longer closed h x = absurd (omega arith)
  is_longer cut_off h x = absurd (omega arith)
  is_longer (longer excess) h x = x
  is_longer tied h x = absurd (omega arith)
  is_longer on_route h x = absurd (omega arith)

module _ (N : Net) (s t e : ℕ) where
  same_value : (q r : Reason) → number q ≡ number r → True N s t e q → True N s t e r → value q ≡ value r
  same_value q r p x y = elim (ℕ_discrete (number q) 3) [
    | yes h ↦
        let a = is_longer {N = N} {s = s} {t = t} {e = e} q h x in
        let b = is_longer {N = N} {s = s} {t = t} {e = e} r (sym p ∙ h) y in
        omega (arith, dist_unique a.dist b.dist, through_unique a.through b.through)
    | no h ↦ no_value q h ∙ sym (no_value r λ z. h (p ∙ z))
  ]

module _ {N : Net} {s t e : ℕ} where
  not_after : (q r : Reason) → FirstTrue N s t e q → FirstTrue N s t e r → number q ≤ number r
  not_after q r x y = elim (dec_lt (number r) (number q)) [
    | yes h ↦ absurd (x.first r h y.true)
    | no h ↦ omega arith
  ]

  pub reason_unique : (q r : Reason) → FirstTrue N s t e q → FirstTrue N s t e r → q ≡ r
  reason_unique q r x y =
      let p : number q ≡ number r = omega (arith, not_after q r x y, not_after r q y x) in
      same_reason q r p (same_value N s t e q r p x.true y.true)

-- ---- And it follows from d(s,t), the route, d(s,u) and d(v,t)

module _ {N : Net} {s t e d : ℕ} {arcs : List ℕ} (dist : Dist N s t d) (route : Route N s t arcs) where
  module _ {a b : ℕ} (x : N.Arc e) (p : Dist N s (N.tail e) a) (q : Dist N (N.head e) t b) where
    pub reason_longer : d < a + b + N.weight e → FirstTrue N s t e (longer (a + b + N.weight e - d))
    reason_longer h =
        let sum : a + N.weight e + b ≡ d + (a + b + N.weight e - d) = omega arith in
        true_first _ x (record { least = d; dist = dist; through = subst (BestThrough N s t e) sum (sum_best x p q); more = omega arith })

    pub reason_tied : a + b + N.weight e ≤ d → ¬ Among e arcs → FirstTrue N s t e tied
    reason_tied h off =
        let same : a + N.weight e + b ≡ d = omega (arith, dist.least _ _ (join (join p.walk (single e x)) q.walk)) in
        true_first tied x (record {
          least = d;
          arcs = arcs;
          dist = dist;
          uses = subst (Uses N s t e) same (sum_best x p q).walk;
          route = route;
          off = off;
        })
