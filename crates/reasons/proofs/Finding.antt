-- What the search without boxes tells of d(s,t) and the route.
use Prim.Native.Nat.{ℕ, ◌≤◌}
use native.Mathlib.Omega.{arith}
use mathlib.Core.Path.{◌≡◌, sym, ap, ◌∙◌, subst}
use mathlib.Core.List.{List, [], ◌∷◌, ◌++◌}
use lib.ListN.{length, take, drop, length-append}
use lib.Seq.{take-append_seam}
use Rattle.rules.specs.Paper.{Reply, accepted, refusal}
use Rattle.rules.specs.Judging.{Judged, fine}
use Rattle.rules.specs.declared.Refusal.{Refusal}
use Rattle.rules.specs.declared.Refusal.TheVariants.{NoWalk}
use Rattle.rules.proofs.PaperLaws.{refusal_nonzero}
use Rattle.walks.specs.Walk.{Net}
use Rattle.walks.specs.Search.{Found}
use Rattle.walks.proofs.LeastLaws.{best_dist}
use Rattle.walks.proofs.RouteLaws.{route_count}
use Rattle.search.specs.Says as search
use Rattle.reasons.specs.Says as why
use Rattle.reasons.specs.Steps.{Known}

-- the first places of a row that begins with a route are the route
pub first_places_lem : (arcs rest : List ℕ) (k : ℕ) → length arcs ≡ k → take k (arcs ++ rest) ≡ arcs
first_places_lem arcs rest k e = ap (λ (j : ℕ). take j (arcs ++ rest)) (sym e) ∙ take-append_seam arcs rest

module _ {N : Net} {n s t : ℕ} where
  pub found_known : {d k c : ℕ} {arcs row : List ℕ} → Found N n s t d k c arcs → row ≡ arcs → Known N s t d row
  found_known f e = record { dist = best_dist f.best; route = rw e f.route }

  module _ {before : List ℕ} where
    -- a route that was found stands in the first k places
    pub answer_known : {d k c : ℕ} {reply : Reply} {after : List ℕ} → search.Answers N n s t before reply after → reply ≡ accepted (d ∷ k ∷ c ∷ [])
        → Known N s t d (take k after) × (k ≤ length after)
    answer_known {d} {k} {c} (search.found {d = d'} {k = k'} {c = c'} {arcs = arcs} f) e =
        let values : d' ∷ k' ∷ c' ∷ [] ≡ d ∷ k ∷ c ∷ [] = ap (λ (x : Reply). x.values) e in
        let p : d' ≡ d = cc in
        let q : k' ≡ k = cc in
        let count : length arcs ≡ k = route_count f.best f.route ∙ q in (
          subst (λ (x : ℕ). Known N s t x (take k (arcs ++ drop (length arcs) before))) p (found_known f (first_places_lem arcs (drop (length arcs) before) k count)),
          omega (arith, count, length-append arcs (drop (length arcs) before)),
        )
    answer_known (search.none {c = settled} h) e = absurd (refusal_nonzero (NoWalk settled) (ap (λ (x : Reply). x.number) (sym e)))

    -- 12 comes before any reason
    pub answer_none : (r : Refusal) {reply : Reply} {after : List ℕ} {arc : ℕ} → search.Answers N n s t before reply after → reply ≡ refusal r
        → why.Answers N n s t arc (refusal r)
    answer_none r (search.found f) e = absurd (refusal_nonzero r (ap (λ (x : Reply). x.number) e))
    answer_none r {arc = arc} (search.none x) e = subst (why.Answers N n s t arc) e (why.none x)

    pub says_known : {judged : Judged} {d k c : ℕ} {reply : Reply} {after : List ℕ} → search.Says judged N n s t before reply after → reply ≡ accepted (d ∷ k ∷ c ∷ [])
        → (judged ≡ fine) × Known N s t d (take k after)
    says_known (search.refused {r = r} h) e = absurd (refusal_nonzero r (ap (λ (x : Reply). x.number) (sym e)))
    says_known (search.answered f a) e = (f, (answer_known a e).0)
