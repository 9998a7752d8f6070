use Rattle.std.proofs.Common.{◌≡◌, ◌≤◌, ◌∙◌, sym, length, take, rules, tests, arith}
use Rattle.std.proofs.lemmas.Result.{err_from_is_err_and}
use Rattle.rules.proofs.JudgingLaws.{passed}
use Rattle.dimacs.specs.Co.{co_rules}
use Rattle.dimacs.specs.Texts.{read_text}
use Rattle.dimacs.specs.Reading.{read_co}
use Rattle.dimacs.specs.declared.format.Format.TheVariants.{Coordinates}
use Rattle.dimacs.proofs.Accepted.{co_count}
use Rattle.dimacs.proofs.Replies.{co_too_long, co_too_short, co_beyond, co_judged, co_out, co_in, two_tests}
use Rattle.dimacs.proofs.read_co.Goals as goal
use Rattle.dimacs.proofs.read_co.Goals.{In_ok-passes-3, In_ok-sheet}

-- a text that is not too long, rows that are long enough, and a count of nodes within its limits
judged_fine : (c : In_ok-passes-3) → read_co c.args.text.now c.args.n c.args.x.now c.args.y.now ≡ read_text (Coordinates c.args.n) c.args.text.now
judged_fine c = co_judged _ _ _ _ _ c.passes.ensures c.in_ok-passes.was _ c.passes-2.ensures c.in_ok-passes-2.was _ c.passes-3.ensures c.in_ok-passes-3.was

-- each line has its place in either row
places : (c : In_ok-sheet)
    → let sheet = c.in_ok-sheet.sheet in
    (sheet.problem.first ≤ 512) × (length (take sheet.problem.first sheet.lines) ≤ length c.args.x.now) × (length (take sheet.problem.first sheet.lines) ≤ length c.args.y.now)
unfolding co_rules
places c =
    let said = c.in_ok-sheet.ensures in
    let nodes = two_tests 1 c.args.n c.args.n 512 (passed _ _ (sym c.passes-3.ensures ∙ c.in_ok-passes-3.was)) in
    let long = two_tests 512 (length c.args.x.now) 512 (length c.args.y.now) (passed _ _ (sym c.passes-2.ensures ∙ c.in_ok-passes-2.was)) in
    let count = co_count c.args.n c.args.text.now _ _ nodes.1 (sym said) in
    (omega (arith, count.0, nodes.1), omega (arith, count.0, count.1, nodes.1, long.0), omega (arith, count.0, count.1, nodes.1, long.1))

pub returns-in_err-passes : goal.returns-in_err-passes
returns-in_err-passes c =
    let returned = err_from_is_err_and c.from_residual.result c.from_residual.ensures.1 in
    rw (returned.1, returned.2) (co_out _ _ _ _ _ (co_too_long _ _ _ _ _ c.passes.ensures _ c.in_err-passes.was))

pub returns-in_err-passes-2 : goal.returns-in_err-passes-2
returns-in_err-passes-2 c =
    let returned = err_from_is_err_and c.from_residual-in_err-passes-2.result c.from_residual-in_err-passes-2.ensures.1 in
    rw (returned.1, returned.2) (co_out _ _ _ _ _ (co_too_short _ _ _ _ _ c.passes.ensures c.in_ok-passes.was _ c.passes-2.ensures _ c.in_err-passes-2.was))

pub returns-in_err-passes-3 : goal.returns-in_err-passes-3
returns-in_err-passes-3 c =
    let returned = err_from_is_err_and c.from_residual-in_err-passes-3.result c.from_residual-in_err-passes-3.ensures.1 in
    rw (returned.1, returned.2)
    (co_out _ _ _ _ _ (co_beyond _ _ _ _ _ c.passes.ensures c.in_ok-passes.was _ c.passes-2.ensures c.in_ok-passes-2.was _ c.passes-3.ensures _ c.in_err-passes-3.was))

pub returns-in_err-sheet : goal.returns-in_err-sheet
returns-in_err-sheet c =
    let returned = err_from_is_err_and c.from_residual-in_err-sheet.result c.from_residual-in_err-sheet.ensures.1 in
    let said = c.in_err-sheet.ensures in
    rw (returned.1, returned.2) (co_out _ _ _ _ _ (judged_fine (goal.at.returns-in_err-sheet c).In_ok-passes-3 ∙ sym said))

pub shared_ref_as_front-lines : goal.shared_ref_as_front-lines
shared_ref_as_front-lines c = let few = (places (goal.at.shared_ref_as_front-lines c).In_ok-sheet).0 in omega arith

pub put-requires-clause-room : goal.put-requires-clause-room
put-requires-clause-room c = (places (goal.at.put-requires-clause-room c).In_ok-sheet).1

pub put-requires-2-clause-room : goal.put-requires-2-clause-room
put-requires-2-clause-room c = (places (goal.at.put-requires-2-clause-room c).In_ok-sheet).2

pub returns : goal.returns
unfolding co_rules
returns c =
    let said = c.in_ok-sheet.ensures in
    co_in _ _ _ _ _ _ _ _ (judged_fine (goal.at.returns c).In_ok-passes-3 ∙ sym said)
    (c.put.ensures (λ ns. ns.x) (λ ns v k. search (rules, tests)))
    (c.put-2.ensures (λ ns. ns.y) (λ ns v k. search (rules, tests)))
