-- The reason that is told, by the route, the arc's closure and the ways to its start and from its end.
use Prim.Native.Nat.{ℕ, ◌+◌, ◌-◌, ◌≤◌, ◌<◌}
use native.Mathlib.Omega.{arith}
use mathlib.Core.Path.{◌≡◌}
use mathlib.Core.Bool.{true, false}
use mathlib.Core.Logic.{◌≢◌, inl, inr}
use mathlib.Core.List.{List}
use borrow.Author.Tests.{eqb-true, eq-eqb}
use Rattle.walks.specs.Rows.{Rows, at, laid, network, turned}
use Rattle.std.specs.Prelude.{Some, None}
use Rattle.reasons.specs.declared.Reason.{Reason}
use Rattle.reasons.specs.declared.Reason.TheVariants.{Closed as closed, CutOff as cut_off, Longer as longer, Tied as tied, OnRoute as on_route}
use Rattle.reasons.specs.Reason.{FirstTrue}
use Rattle.reasons.specs.Paper.{told}
use Rattle.reasons.specs.Says.{Answers, reason}
use Rattle.reasons.specs.Steps.{IsWay, is_among, Asked, Known}
use Rattle.reasons.proofs.ReasonLaws.{true_first, closed_first, reason_longer, reason_tied}
use Rattle.reasons.proofs.AmongLaws.{yes_among, no_among}
use Rattle.reasons.proofs.Ways.{way_back}

module _ {n m : ℕ} {R : Rows} {s t e d : ℕ} {arcs : List ℕ} (asked : Asked n m R s t e) (known : Known (network m R) s t d arcs) where
  because : (r : Reason) → FirstTrue (network m R) s t e r → Answers (network m R) n s t e (told r)
  because r first = reason r (record { length = d; count = known.dist.count; walk = known.dist.walk }) first

  pub told-closed : at R.closures e ≢ 0 → Answers (network m R) n s t e (told closed)
  unfolding laid network
  told-closed h = because closed (closed_first λ a. h (eqb-true _ 0 a.1))

  module _ (clear : at R.closures e ≡ 0) where
    an_arc : (network m R).Arc e
    unfolding laid network
    an_arc = ((asked.arc_low, asked.arc_high), eq-eqb _ 0 clear)

    pub start-cut : IsWay (network m R) s (at R.tails e) None → Answers (network m R) n s t e (told cut_off)
    unfolding laid network
    start-cut p = because cut_off (true_first cut_off an_arc (inl p))

    -- the way from the arc's end is searched in the turned network
    pub end_cut : IsWay (network m (turned R)) t (at R.heads e) None → Answers (network m R) n s t e (told cut_off)
    unfolding laid network
    end_cut q = because cut_off (true_first cut_off an_arc (inr (way_back m R t (at R.heads e) None q)))

    module _ {before after : ℕ} (p : IsWay (network m R) s (at R.tails e) (Some before)) (q : IsWay (network m (turned R)) t (at R.heads e) (Some after)) where
      from_end : IsWay (network m R) (at R.heads e) t (Some after)
      from_end = way_back m R t (at R.heads e) (Some after) q

      pub through_limit : before + after + at R.weights e ≤ 1_023_000_000
      through_limit = omega (arith, p.0, from_end.0, (asked.sound.arcs e asked.arc_low asked.arc_high).weight_high)

      pub told_longer : d < before + after + at R.weights e → Answers (network m R) n s t e (told (longer (before + after + at R.weights e - d)))
      unfolding laid network
      told_longer more = because _ (reason_longer known.dist known.route an_arc p.1 from_end.1 more)

      pub told_tied : before + after + at R.weights e ≤ d → is_among e arcs ≡ false → Answers (network m R) n s t e (told tied)
      unfolding laid network
      told_tied same off = because tied (reason_tied known.dist known.route an_arc p.1 from_end.1 same (no_among e arcs off))

      pub told_on_route : is_among e arcs ≡ true → Answers (network m R) n s t e (told on_route)
      told_on_route on = because on_route (true_first on_route an_arc (record { arcs = arcs; route = known.route; on = yes_among e arcs on }))
