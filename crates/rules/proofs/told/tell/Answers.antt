use Rattle.std.proofs.Common.{ℕ, ◌≡◌, length, drop, ◌++◌, [], ◌∷◌, ap, sym, subst, ◌∙◌}
use Rattle.std.proofs.lemmas.List.{length-take-le}
use Rattle.rules.proofs.told.tell.Goals as goal
use Rattle.rules.proofs.ToldLaws.{put_first}
use Rattle.rules.specs.Places.{places}
use native.Mathlib.Omega.{arith}

pub returns-clause-told_places : goal.returns-clause-told_places
returns-clause-told_places g c =
    let full : length c.args.values ≡ g.row.N =
    ap length (sym c.copy_from_slice.ensures.after) ∙ c.copy_from_slice.ensures.len ∙ length-take-le g.row.N (0 ∷ 0 ∷ 0 ∷ []) c.requires in
    let put = put_first c.args.values (omega (arith, full, c.requires)) in
    rw c.copy_from_slice.ensures.after (subst (λ (n : ℕ). c.args.values ++ drop n (0 ∷ 0 ∷ 0 ∷ []) ≡ places c.args.values) full put)
