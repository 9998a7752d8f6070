-- `reasons::why` meets its contract: refused as judged, 12 as the search tells it, or the reason.
use native.Mathlib.Omega.{arith}
use mathlib.Core.Path.{refl, sym}
use Prim.Native.Nat.{ℕ}
use lib.ListN.{length-replicate}
use lib.Seq.{length-take-le}
use Rattle.std.proofs.lemmas.Result.{err_from_is_err_and}
use Rattle.search.proofs.Networks.{answers_alike, open_arcs}
use Rattle.reasons.specs.Says.{refused, answered}
use Rattle.reasons.proofs.Finding.{answer_known, answer_none}
use Rattle.reasons.proofs.Computed.{why_asked}
use Rattle.reasons.proofs.why.Goals as goal

pub returns-in_err-judge_why : goal.returns-in_err-judge_why
returns-in_err-judge_why c =
    let p = err_from_is_err_and c.from_residual.result c.from_residual.ensures.1 in
    rw (p.1, p.2) (refused (sym c.in_err-judge_why.ensures))

pub tracks-tracks-requires : goal.tracks-tracks-requires
tracks-tracks-requires c = (why_asked _ _ _ _ _ _ (sym c.in_ok-judge_why.ensures)).sound

pub invariant_of-find : goal.invariant_of-find
invariant_of-find c =
    let x = why_asked _ _ _ _ _ _ (sym c.in_ok-judge_why.ensures) in
    let laid = c.tracks-tracks.ensures in
    record { source = rw laid.nodes (x.source_low, x.source_high); room = rw c.open-sieve.ensures (record { boxes_lent = tt; masks_lent = tt }) }

pub find-requires : goal.find-requires
find-requires c =
    let x = why_asked _ _ _ _ _ _ (sym c.in_ok-judge_why.ensures) in
    let laid = c.tracks-tracks.ensures in
    rw laid.nodes (x.target_low, x.target_high, omega (arith, x.sound.nodes_high, length-replicate {A = ℕ} 512 0))

pub returns-in_err-found : goal.returns-in_err-found
returns-in_err-found c =
    let p = err_from_is_err_and c.from_residual-in_err-found.result c.from_residual-in_err-found.ensures.1 in
    let laid = c.tracks-tracks.ensures in
    let found = rw c.open-sieve.ensures at c.in_err-found.ensures in
    let none = answer_none _ {arc = c.args.arc} (answers_alike (open_arcs _ _) found) refl in
    rw (p.1, p.2) (answered (sym c.in_ok-judge_why.ensures) (rw (laid.same, laid.nodes, laid.arcs) at none))

pub slice_bounds-route-end : goal.slice_bounds-route-end
slice_bounds-route-end c =
    let found = rw c.open-sieve.ensures at c.in_ok-found.ensures in
    (answer_known (answers_alike (open_arcs _ _) found) refl).1

pub slice_bounds-arcs-end : goal.slice_bounds-arcs-end
slice_bounds-arcs-end c =
    let found = rw c.open-sieve.ensures at c.in_ok-found.ensures in
    let fits = (answer_known (answers_alike (open_arcs _ _) found) refl).1 in
    sym (length-take-le _ _ fits)

pub explain-requires : goal.explain-requires
explain-requires c =
    let x = why_asked _ _ _ _ _ _ (sym c.in_ok-judge_why.ensures) in
    let laid = c.tracks-tracks.ensures in
    let found = rw c.open-sieve.ensures at c.in_ok-found.ensures in
    (rw (laid.same, laid.nodes, laid.arcs) x, (answer_known (answers_alike (open_arcs _ _) found) refl).0)

pub returns : goal.returns
returns c =
    let laid = c.tracks-tracks.ensures in
    answered (sym c.in_ok-judge_why.ensures) (rw (laid.same, laid.nodes, laid.arcs) at c.explain.ensures)
