-- Where every closure is 0 nothing was lost.
use Prim.Native.Nat.{ℕ, ◌-◌}
use mathlib.Core.Path.{◌≡◌, sym, subst, ◌∙◌}
use mathlib.Core.Logic.{◌↔◌}
use mathlib.Core.Bool.{true}
use mathlib.Core.List.{List, [], ◌∷◌}
use lib.IntN.{ℤ}
use lib.ListN.{length}
use lib.Seq.{set-get_or}
use Rattle.rules.specs.Judging.{in_turn}
use Rattle.rules.specs.Paper.{Reply, accepted}
use Rattle.rules.specs.Judging.{Judged, fine}
use Rattle.walks.specs.Walk.{Net}
use Rattle.walks.specs.Rows.{Rows, at, laid, network}
use Rattle.walks.proofs.RowsLaws.{open_network}
use Rattle.judging.specs.Order.{arcs_judged, shaped_by, reweighing, update_judged}
use Rattle.judging.proofs.OpenLaws.{search_open, build_open, check_open, update_open}
use Rattle.judging.proofs.FineLaws.{update_fine}
use Rattle.passing.specs.Signs.{nothing, boxes_alone, no_signs, box_signs}
use Rattle.passing.specs.Passing.{passing}
use Rattle.search.specs.Says.{Says}
use Rattle.drawing.specs.Drawn.{Drawn, box_row}
use Rattle.boxwork.specs.Tight.{Updated}
use Rattle.boxwork.specs.Says.{Builds, Checks, Updates, UpdateSays, changed}
use Rattle.boxwork.specs.AllOpen.{AllOpen, reweighted, SearchAsBefore, BoxedAsBefore, BuildAsBefore, CheckAsBefore, Update01, UpdateAsBefore}

-- what is judged alike, over the same network, says the same
same_says : {j j' : Judged} {N N' : Net} (P : Judged → Net → Type 0) → j ≡ j' → N ≡ N' → P j N ↔ P j' N'
same_says {j} {j'} {N} {N'} P p q = (
  (λ a. subst (λ (i : Judged). P i N') p (subst (λ (M : Net). P j M) q a)),
  (λ a. subst (λ (i : Judged). P i N) (sym p) (subst (λ (M : Net). P j' M) (sym q) a)),
)

module _ (n m : ℕ) (R : Rows) where
  pub search_as_before : SearchAsBefore n m R
  search_as_before o s t before after reply =
      same_says (λ j N. Says j N n s t before reply after) (search_open n m R o.all o.long nothing no_signs s t (length before)) (open_network m R o.all)

  module _ (x y boxes : List ℤ) where
    pub boxed_as_before : BoxedAsBefore n m R x y boxes
    boxed_as_before o s t before after reply =
        same_says (λ j N. Says j (passing boxes_alone (box_signs x y boxes) t N) n s t before reply after)
        (search_open n m R o.all o.long boxes_alone (box_signs x y boxes) s t (length before))
        (open_network m R o.all)

    pub build_as_before : BuildAsBefore n m R x y boxes
    build_as_before o reply after =
        same_says (λ j N. Builds j N m boxes_alone (box_signs x y boxes) reply after []) (build_open n m R o.all o.long boxes_alone (box_signs x y boxes)) (open_network m R o.all)

    pub check_as_before : CheckAsBefore n m R x y boxes
    check_as_before o reply =
        same_says (λ j N. Checks j N boxes_alone (box_signs x y boxes) reply) (check_open n m R o.all o.long boxes_alone (box_signs x y boxes)) (open_network m R o.all)

    -- ---- An update that leaves its arc open writes 0 where 0 stood

    module _ (o : AllOpen m R) (arc weight : ℕ) where
      same_rows : at R.closures arc ≡ 0 → changed R arc weight 0 ≡ reweighted R arc weight
      same_rows h = rw (rw h at (set-get_or R.closures (arc - 1) 0))

      same_network : at R.closures arc ≡ 0 → network m (changed R arc weight 0) ≡ laid m (reweighted R arc weight)
      same_network h = rw (same_rows h) (open_network m (reweighted R arc weight) o.all)

      open_arc : update_judged boxes_alone n m R (box_signs x y boxes) arc weight 0 ≡ fine → at R.closures arc ≡ 0
      open_arc f = let u = update_fine boxes_alone n m R (box_signs x y boxes) arc weight 0 f in o.all arc u.1 u.2

      alike : update_judged boxes_alone n m R (box_signs x y boxes) arc weight 0 ≡ in_turn (shaped_by (arcs_judged n m R) n m boxes_alone (box_signs x y boxes) true ∷ reweighing m arc weight ∷ [])
      alike = update_open n m R o.all o.long boxes_alone (box_signs x y boxes) arc weight

      there : {reply : Reply} {left : Rows} {after : List ℤ} → UpdateSays n m R x y boxes arc weight 0 reply left after → Update01 n m R x y boxes arc weight reply left after
      there (Updates.refused e) = Updates.refused (sym alike ∙ e)
      there (Updates.updated {after = after} f d) =
          let h = open_arc f in
          subst (λ (S : Rows). Update01 n m R x y boxes arc weight (accepted []) S after) (sym (same_rows h))
          (Updates.updated (sym alike ∙ f) (subst (λ (N : Net). Drawn box_row m (Updated N x y) boxes after) (same_network h) d))

      back : {reply : Reply} {left : Rows} {after : List ℤ} → Update01 n m R x y boxes arc weight reply left after → UpdateSays n m R x y boxes arc weight 0 reply left after
      back (Updates.refused e) = Updates.refused (alike ∙ e)
      back (Updates.updated {after = after} f d) =
          let h = open_arc (alike ∙ f) in
          subst (λ (S : Rows). UpdateSays n m R x y boxes arc weight 0 (accepted []) S after) (same_rows h)
          (Updates.updated (alike ∙ f) (subst (λ (N : Net). Drawn box_row m (Updated N x y) boxes after) (sym (same_network h)) d))

    pub update_as_before : UpdateAsBefore n m R x y boxes
    update_as_before o arc weight reply left after = (there o arc weight, back o arc weight)
