-- Where every closure is 0, each call is judged as if none had been lent.
use Prim.Native.Nat.{ℕ, ◌≤◌}
use mathlib.Core.Path.{◌≡◌, ap}
use mathlib.Core.Bool.{Bool, true}
use mathlib.Core.List.{[], ◌∷◌}
use native.Mathlib.Omega.{arith}
use borrow.Author.Tests.{le-leb}
use lib.ListN.{length}
use Rattle.rules.specs.Judging.{or_else, in_turn}
use Rattle.rules.specs.declared.Asked.{Asked}
use Rattle.rules.specs.Judging.{Judged}
use Rattle.rules.specs.Judging.{fine}
use Rattle.rules.proofs.JudgingLaws.{nothing_follows, each_fine}
use Rattle.walks.specs.Rows.{Rows, at}
use Rattle.passing.specs.Signs.{Signs}
use Rattle.judging.specs.Order.{closures, reweighing, arcs_judged, network_judged, placed_by, shaped_by, searched_by, search_judged, build_judged, check_judged, update_judged}

module _ (n m : ℕ) (R : Rows) (all : (e : ℕ) → 1 ≤ e → e ≤ m → at R.closures e ≡ 0) (long : m ≤ length R.closures) where
  pub open_judged : (others : Bool) → network_judged n m R others ≡ arcs_judged n m R others
  unfolding network_judged
  open_judged others =
      let good : closures m R.closures ≡ fine = each_fine _ _ m (λ e low high. le-leb (at R.closures e) 1 (omega (arith, all e low high))) in
      rw (le-leb m _ long, good) (nothing_follows _)

  same : network_judged n m R ≡ arcs_judged n m R
  same i others = open_judged others i

  module _ (asked : Asked) (G : Signs) where
    pub search_open : (s t places : ℕ) → search_judged asked n m R G s t places ≡ searched_by (arcs_judged n m R) n m asked G s t places
    unfolding search_judged
    search_open s t places = ap (λ (judged : Bool → Judged). searched_by judged n m asked G s t places) same

    pub build_open : build_judged asked n m R G ≡ placed_by (arcs_judged n m R) n m asked G true
    unfolding build_judged
    build_open = ap (λ (judged : Bool → Judged). placed_by judged n m asked G true) same

    pub check_open : check_judged asked n m R G ≡ shaped_by (arcs_judged n m R) n m asked G true
    unfolding check_judged
    check_open = ap (λ (judged : Bool → Judged). shaped_by judged n m asked G true) same

    -- an update that leaves its arc open
    pub update_open : (arc weight : ℕ)
        → update_judged asked n m R G arc weight 0 ≡ in_turn (shaped_by (arcs_judged n m R) n m asked G true ∷ reweighing m arc weight ∷ [])
    unfolding update_judged
    update_open arc weight = rw check_open (ap (or_else (shaped_by (arcs_judged n m R) n m asked G true)) (nothing_follows _))
