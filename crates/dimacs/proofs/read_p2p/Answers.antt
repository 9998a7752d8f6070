use Rattle.std.proofs.Common.{◌≡◌, ◌≤◌, ◌∙◌, sym, length, take, rules, tests, arith}
use Rattle.std.proofs.lemmas.Result.{err_from_is_err_and}
use Rattle.rules.proofs.JudgingLaws.{passed}
use Rattle.dimacs.specs.P2p.{p2p_rules}
use Rattle.dimacs.specs.Texts.{read_text}
use Rattle.dimacs.specs.Reading.{read_p2p}
use Rattle.dimacs.specs.Rules.{column_of}
use Rattle.dimacs.specs.declared.format.Format.TheVariants.{Queries}
use Rattle.dimacs.specs.declared.rows.Column.TheVariants.{First, Second}
use Rattle.dimacs.proofs.Accepted.{p2p_count}
use Rattle.dimacs.proofs.Replies.{p2p_too_long, p2p_too_short, p2p_beyond, p2p_judged, p2p_out, p2p_in, two_tests}
use Rattle.dimacs.proofs.read_p2p.Goals as goal
use Rattle.dimacs.proofs.read_p2p.Goals.{In_ok-passes-3, In_ok-sheet}

-- a text that is not too long, a row of answers that is long enough, and a count of nodes within its limits
judged_fine : (c : In_ok-passes-3) → read_p2p c.args.text.now c.args.n c.args.answers.now ≡ read_text (Queries c.args.n) c.args.text.now
judged_fine c = p2p_judged _ _ _ _ c.passes.ensures c.in_ok-passes.was _ c.passes-2.ensures c.in_ok-passes-2.was _ c.passes-3.ensures c.in_ok-passes-3.was

-- each line has its place in either row
places : (c : In_ok-sheet) → let sheet = c.in_ok-sheet.sheet in (sheet.problem.first ≤ 256) × (length (take sheet.problem.first sheet.lines) ≤ 256)
unfolding p2p_rules
places c =
    let said = c.in_ok-sheet.ensures in
    let nodes = two_tests 1 c.args.n c.args.n 512 (passed _ _ (sym c.passes-3.ensures ∙ c.in_ok-passes-3.was)) in
    let count = p2p_count c.args.n c.args.text.now _ _ nodes.1 (sym said) in
    (count.0, omega (arith, count.0, count.1))

pub returns-in_err-passes : goal.returns-in_err-passes
returns-in_err-passes c =
    let returned = err_from_is_err_and c.from_residual.result c.from_residual.ensures.1 in
    rw (returned.1, returned.2) (p2p_out _ _ _ _ _ _ (p2p_too_long _ _ _ _ c.passes.ensures _ c.in_err-passes.was))

pub returns-in_err-passes-2 : goal.returns-in_err-passes-2
returns-in_err-passes-2 c =
    let returned = err_from_is_err_and c.from_residual-in_err-passes-2.result c.from_residual-in_err-passes-2.ensures.1 in
    rw (returned.1, returned.2) (p2p_out _ _ _ _ _ _ (p2p_too_short _ _ _ _ c.passes.ensures c.in_ok-passes.was _ c.passes-2.ensures _ c.in_err-passes-2.was))

pub returns-in_err-passes-3 : goal.returns-in_err-passes-3
returns-in_err-passes-3 c =
    let returned = err_from_is_err_and c.from_residual-in_err-passes-3.result c.from_residual-in_err-passes-3.ensures.1 in
    rw (returned.1, returned.2)
    (p2p_out _ _ _ _ _ _ (p2p_beyond _ _ _ _ c.passes.ensures c.in_ok-passes.was _ c.passes-2.ensures c.in_ok-passes-2.was _ c.passes-3.ensures _ c.in_err-passes-3.was))

pub returns-in_err-sheet : goal.returns-in_err-sheet
returns-in_err-sheet c =
    let returned = err_from_is_err_and c.from_residual-in_err-sheet.result c.from_residual-in_err-sheet.ensures.1 in
    let said = c.in_err-sheet.ensures in
    rw (returned.1, returned.2) (p2p_out _ _ _ _ _ _ (judged_fine (goal.at.returns-in_err-sheet c).In_ok-passes-3 ∙ sym said))

pub shared_ref_as_front-lines : goal.shared_ref_as_front-lines
shared_ref_as_front-lines c = let few = (places (goal.at.shared_ref_as_front-lines c).In_ok-sheet).0 in omega arith

pub put-requires-clause-room : goal.put-requires-clause-room
put-requires-clause-room c = let few = (places (goal.at.put-requires-clause-room c).In_ok-sheet).1 in omega arith

pub put-requires-2-clause-room : goal.put-requires-2-clause-room
put-requires-2-clause-room c = let few = (places (goal.at.put-requires-2-clause-room c).In_ok-sheet).1 in omega arith

pub returns : goal.returns
unfolding p2p_rules
returns c =
    let said = c.in_ok-sheet.ensures in
    p2p_in _ _ _ _ _ _ _ _ _ (judged_fine (goal.at.returns c).In_ok-passes-3 ∙ sym said)
    (c.put.ensures (column_of First) (λ ns v k. search (rules, tests)))
    (c.put-2.ensures (column_of Second) (λ ns v k. search (rules, tests)))
