-- What a closed track is.
use Prim.Native.Nat.{ℕ, ◌-◌, ◌<◌}
use native.Mathlib.Omega.{arith}
use mathlib.Core.Path.{◌≡◌, refl, sym, subst, ap, ◌∙◌}
use mathlib.Core.List.{List, [], ◌∷◌}
use borrow.Author.Tests.{eqb-true}
use lib.IntN.{ℤ}
use lib.ListN.{length, get_or-append}
use lib.Seq.{get_or-set_same}
use Rattle.rules.specs.Paper.{Reply, accepted}
use Rattle.rules.specs.Judging.{Judged}
use Rattle.rules.specs.declared.Refusal.TheVariants.{NoWalk}
use Rattle.rules.proofs.PaperLaws.{refusal_nonzero}
use Rattle.walks.specs.Walk.{Net}
use Rattle.walks.specs.Rows.{Rows, at, network}
use Rattle.walks.proofs.WalkLaws.{by_uses}
use Rattle.walks.proofs.RouteLaws.{route_count, route_walk}
use Rattle.passing.specs.Signs.{boxes_alone, box_signs}
use Rattle.passing.proofs.PassingLaws.{passing_in}
use Rattle.judging.proofs.FineLaws.{check_fine, update_fine}
use Rattle.search.specs.Says.{Answers, found, none, Says, refused, answered}
use Rattle.boxwork.specs.Says.{UpdateSays, changed}
use Rattle.boxwork.specs.Closing.{NotAmong, ClosedEmpty, SearchAfterClosing}
use Rattle.boxwork.proofs.Accepting.{update_accepts}

-- a closed arc is no arc of the network
shut : (m : ℕ) (R : Rows) (e : ℕ) → at R.closures e ≡ 1 → (network m R).Arc e → ⊥
unfolding network
shut m R e h a = omega (arith, h, eqb-true (at R.closures e) 0 a.1)

-- a route uses arcs of the network alone
module _ {N : Net} {n s t e : ℕ} {before : List ℕ} (none-such : N.Arc e → ⊥) {d k c : ℕ} where
  answers_avoid : {reply : Reply} {after : List ℕ} → Answers N n s t before reply after → reply ≡ accepted (d ∷ k ∷ c ∷ []) → NotAmong e k after
  answers_avoid (found {d = d'} {k = k'} {c = c'} {arcs = arcs} f) p i h is =
      let values : d' ∷ k' ∷ c' ∷ [] ≡ d ∷ k ∷ c ∷ [] = ap (λ (x : Reply). x.values) p in
      let count : k' ≡ k = cc in
      let short : i < length arcs = omega (arith, h, count, route_count f.best f.route) in
      let same = sym (get_or-append arcs _ 0 i short) ∙ is in
      none-such (subst N.Arc same (by_uses (route_walk f.best f.route) i short))
  answers_avoid (none {c = c'} f) p i h is = absurd (refusal_nonzero (NoWalk c') (ap (λ (x : Reply). x.number) (sym p)))

  says_avoid : {judged : Judged} {reply : Reply} {after : List ℕ} → Says judged N n s t before reply after → reply ≡ accepted (d ∷ k ∷ c ∷ []) → NotAmong e k after
  says_avoid (refused {r = r} e) p = absurd (refusal_nonzero r (ap (λ (x : Reply). x.number) (sym p)))
  says_avoid (answered f a) p = answers_avoid a p

module _ (n m : ℕ) (R : Rows) where
  pub closed_empty : ClosedEmpty n m R
  closed_empty e t h i = shut m R e h i.arc

  module _ (x y before : List ℤ) (arc weight : ℕ) (R' : Rows) (boxes : List ℤ) where
    -- an update that closes an arc leaves it closed
    closed : UpdateSays n m R x y before arc weight 1 (accepted []) R' boxes → (network m R').Arc arc → ⊥
    closed u =
        let h = update_accepts u refl in
        let f = update_fine boxes_alone n m R (box_signs x y before) arc weight 1 h.0 in
        let l = (check_fine boxes_alone n m R (box_signs x y before) f.0).lent in
        rw h.1 (shut m (changed R arc weight 1) arc (get_or-set_same R.closures (arc - 1) 1 0 (omega (arith, f.1, f.2, l.sound.closures_long))))

    pub search_after_closing : SearchAfterClosing n m R x y before arc weight R' boxes
    search_after_closing u asked G s t row after d k c says = says_avoid (λ a. closed u (passing_in asked G t (network m R') arc a).0) says refl
