-- Searches in two networks that answer alike agree in what they say.
use Prim.Native.Nat.{ℕ}
use mathlib.Core.Path.{◌≡◌, refl, ap}
use mathlib.Core.Logic.{◌↔◌}
use mathlib.Core.List.{List}
use native.Mathlib.Omega.{arith}
use Rattle.rules.specs.Paper.{Reply}
use Rattle.rules.proofs.PaperLaws.{refusal_nonzero}
use Rattle.rules.specs.Judging.{Judged}
use Rattle.rules.specs.declared.Refusal.TheVariants.{NoWalk}
use Rattle.walks.specs.Walk.{Net}
use Rattle.walks.specs.Least.{Reached}
use Rattle.walks.proofs.LeastLaws.{best_length, best_count}
use Rattle.walks.proofs.RouteLaws.{route_unique}
use Rattle.walks.proofs.Pruning.{SameAnswers}
use Rattle.search.specs.Says.{Answers, found, none, Says, refused, answered}
use Rattle.boxwork.specs.Demand3.{Agree, same_route, no_walk, same_refusal, NoRoute}

module _ {N F : Net} {n s t : ℕ} {before before' : List ℕ} (same : SameAnswers N F s t) where
  answers_agree : {reply reply' : Reply} {after after' : List ℕ} → Answers N n s t before reply after → Answers F n s t before' reply' after'
      → Agree before before' reply after reply' after'
  answers_agree (found {d = d} {k = k} {arcs = arcs} p) (found {d = d'} {k = k'} {arcs = arcs'} q) =
      let b = (same.best _ _).0 p.best in
      let el : d ≡ d' = best_length b q.best in
      let ek : k ≡ k' = best_count b q.best in
      let er : arcs ≡ arcs' = route_unique ((same.route _).0 p.route) q.route in
      rw (el, ek, er) (same_route arcs')
  answers_agree (found p) (none q) = absurd (q.none (record { length = _; count = _; walk = ((same.best _ _).0 p.best).walk }))
  answers_agree (none p) (found q) = absurd (p.none (record { length = _; count = _; walk = ((same.best _ _).1 q.best).walk }))
  answers_agree (none p) (none q) = no_walk

  pub says_agree : {judged : Judged} {reply reply' : Reply} {after after' : List ℕ} → Says judged N n s t before reply after → Says judged F n s t before' reply' after'
      → Agree before before' reply after reply' after'
  says_agree (refused {r = r} e) (refused {r = r'} e') = let eq : r ≡ r' = cc in rw eq (same_refusal r')
  says_agree (refused e) (answered f a) = let z : ◌≡◌ {A = ℕ} 0 1 = cc in absurd (omega arith)
  says_agree (answered f a) (refused e) = let z : ◌≡◌ {A = ℕ} 0 1 = cc in absurd (omega arith)
  says_agree (answered f a) (answered f' a') = answers_agree a a'

-- where two networks answer alike, the reply in one is 12 exactly where no walk leads in the other
pub answers-none : {N F : Net} {n s t : ℕ} {before after : List ℕ} {reply : Reply} → SameAnswers N F s t → Answers F n s t before reply after → NoRoute reply ↔ (¬ Reached N s t)
answers-none same (found p) = (
  (λ z. absurd (refusal_nonzero (NoWalk z.settled) (ap (λ (q : Reply). q.number) z.is))),
  (λ h. absurd (same.no_walk.0 h (record { length = _; count = _; walk = p.best.walk }))),
)
answers-none same (none {c = c} p) = ((λ z. same.no_walk.1 p.none), (λ h. record { settled = c; is = refl }))
