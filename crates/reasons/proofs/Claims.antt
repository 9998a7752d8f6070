-- The claims of request e, proved.
use Prim.Native.Nat.{ℕ}
use native.Mathlib.Omega.{arith}
use mathlib.Core.Path.{◌≡◌, refl, sym, ap, subst}
use mathlib.Core.List.{List, [], ◌∷◌}
use lib.ListN.{length, take}
use Rattle.rules.specs.Paper.{Reply, accepted}
use Rattle.rules.specs.declared.Refusal.TheVariants.{NoWalk}
use Rattle.rules.proofs.PaperLaws.{refusal_nonzero}
use Rattle.walks.specs.Walk.{Net}
use Rattle.walks.specs.Rows.{Rows, laid, network}
use Rattle.walks.proofs.RouteLaws.{route_unique}
use Rattle.judging.proofs.FineLaws.{search_why}
use Rattle.search.specs.Says.{SearchSays}
use Rattle.reasons.specs.Using.{Among}
use Rattle.reasons.specs.declared.Reason.{Reason}
use Rattle.reasons.specs.declared.Reason.TheVariants.{Closed as closed, CutOff as cut_off, Longer as longer, Tied as tied, OnRoute as on_route}
use Rattle.reasons.specs.Reason.{number, OnRoute, True}
use Rattle.reasons.specs.Paper.{values, told}
use Rattle.reasons.specs.Says.{reason, none, WhySays, refused, answered}
use Rattle.reasons.specs.Steps.{Known}
use Rattle.reasons.specs.Claims.{ExactlyOne, FiveExactly, NoneOfFour}
use Rattle.reasons.proofs.UsingLaws.{uses_parts}
use Rattle.reasons.proofs.ReasonLaws.{on_route_uses, true_first}
use Rattle.reasons.proofs.SaysLaws.{why_unique}
use Rattle.reasons.proofs.Finding.{says_known}
use Rattle.reasons.proofs.Computed.{reply_of, reply_says}

pub exactly_one : ExactlyOne
exactly_one n m R s t arc = (reply_of n m R s t arc, reply_says n m R s t arc, λ other w. why_unique w (reply_says n m R s t arc))

-- ---- 5, and the route row

is_on_route : {N : Net} {s t e : ℕ} (r : Reason) → number r ≡ 5 → True N s t e r → OnRoute N s t e
is_on_route closed h x = absurd (omega arith)
is_on_route cut_off h x = absurd (omega arith)
is_on_route (longer excess) h x = absurd (omega arith)
is_on_route tied h x = absurd (omega arith)
is_on_route on_route h x = x

five_on_route : {n m : ℕ} {R : Rows} {s t arc : ℕ} {reply : Reply} → WhySays n m R s t arc reply → reply ≡ told on_route → OnRoute (network m R) s t arc
five_on_route (refused {r = r} h) e = absurd (refusal_nonzero r (ap (λ (x : Reply). x.number) (sym e)))
five_on_route (answered f (none {c = settled} h)) e = absurd (refusal_nonzero (NoWalk settled) (ap (λ (x : Reply). x.number) (sym e)))
five_on_route (answered f (reason r x first)) e =
    let all : number r ∷ values r ≡ 5 ∷ [] = ap (λ (x : Reply). x.values) e in
    let p : number r ≡ 5 = cc in
    is_on_route r p first.true

module _
    (n m : ℕ) (R : Rows) (s t arc : ℕ) (before after : List ℕ) (d k c : ℕ)
    (found : SearchSays n m R s t before (accepted (d ∷ k ∷ c ∷ [])) after)
  where
    known : Known (network m R) s t d (take k after)
    known = (says_known found refl).1

    on : Among arc (take k after) → OnRoute (network m R) s t arc
    on h = record { arcs = take k after; route = known.route; on = h }

    an_arc : Among arc (take k after) → (network m R).Arc arc
    an_arc h = (uses_parts (on_route_uses (on h) known.dist)).arc

    five : Among arc (take k after) → WhySays n m R s t arc (told on_route)
    unfolding laid network
    five h =
        let a = an_arc h in
        answered (search_why n m R s t arc _ (length before) (says_known found refl).0 a.0.0 a.0.1)
        (reason on_route (record { length = d; count = known.dist.count; walk = known.dist.walk }) (true_first on_route a (on h)))

pub five_exactly : FiveExactly
five_exactly n m R s t arc before after d k c reply found w = (
  (λ e. let o = five_on_route w e in subst (Among arc) (route_unique o.route (known n m R s t arc before after d k c found).route) o.on),
  (λ h. why_unique w (five n m R s t arc before after d k c found h)),
)

pub none_of_four : NoneOfFour
none_of_four n m R s t arc before after d k c found h q low =
    (true_first on_route (an_arc n m R s t arc before after d k c found h) (on n m R s t arc before after d k c found h)).first q low
