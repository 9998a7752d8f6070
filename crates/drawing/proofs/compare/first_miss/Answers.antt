-- `drawing::compare::first_miss` meets its contract.
use Rattle.std.proofs.Common.{◌≡◌, ◌+◌, refl, true, false, rules}
use Rattle.std.proofs.lemmas.Iterator.{first_from_Range}
use Rattle.passing.specs.Sieving.{keeps_by}
use Rattle.drawing.specs.Drawn.{mark_of}
use Rattle.drawing.specs.Missed.{misses_by}
use Rattle.drawing.proofs.Steps.{mark-next}
use Rattle.drawing.proofs.MissedLaws.{place_found}
use Rattle.drawing.proofs.compare.first_miss.Goals as goal

pub returns : goal.returns
returns c =
    let test = misses_by (mark_of c.args.marked.now) (keeps_by c.args.sieve c.args.closures.now) in
    place_found test _ _
    (first_from_Range _ _ _ _ (λ i. test (i + 1) ≡ true) (λ i. test (i + 1) ≡ false) c.find.ensures.ran
    (λ x q h. rw (mark-next c.args.marked.now x refl) (search rules))
    (λ x q h. (search rules, rw (mark-next c.args.marked.now x refl) (search rules))))
