use Rattle.std.proofs.Common.{◌≡◌, ◌∙◌, sym, length, take, rules, tests, arith}
use lib.Seq.{length-take-le}
use Rattle.rules.proofs.JudgingLaws.{passed}
use Rattle.std.proofs.lemmas.Result.{err_from_is_err_and}
use Rattle.dimacs.proofs.Accepted.{gr_count}
use Rattle.dimacs.proofs.Replies.{gr_too_long, gr_too_short, gr_judged, gr_out, gr_in, gr_room}
use Rattle.dimacs.specs.Gr.{gr_rules}
use Rattle.dimacs.specs.Rules.{column_of}
use Rattle.dimacs.specs.Texts.{read_text}
use Rattle.dimacs.specs.Reading.{read_gr}
use Rattle.dimacs.specs.declared.format.Format.TheVariants.{Graph}
use Rattle.dimacs.specs.declared.rows.Column.TheVariants.{First, Second, Third}
use Rattle.dimacs.proofs.read_gr.Goals as goal
use Rattle.dimacs.proofs.read_gr.Goals.{In_ok-passes-2}

-- a text that is not too long, and rows that are long enough
judged_fine : (c : In_ok-passes-2)
    → read_gr c.args.text.now c.args.tails.now c.args.heads.now c.args.weights.now c.args.closures.now ≡ read_text Graph c.args.text.now
judged_fine c = gr_judged _ _ _ _ _ _ c.passes.ensures c.in_ok-passes.was _ c.passes-2.ensures c.in_ok-passes-2.was

pub returns-in_err-passes : goal.returns-in_err-passes
returns-in_err-passes c =
    let returned = err_from_is_err_and c.from_residual.result c.from_residual.ensures.1 in
    rw (returned.1, returned.2) (gr_out _ _ _ _ _ _ (gr_too_long _ _ _ _ _ _ c.passes.ensures _ c.in_err-passes.was))

pub returns-in_err-passes-2 : goal.returns-in_err-passes-2
returns-in_err-passes-2 c =
    let returned = err_from_is_err_and c.from_residual-in_err-passes-2.result c.from_residual-in_err-passes-2.ensures.1 in
    rw (returned.1, returned.2) (gr_out _ _ _ _ _ _ (gr_too_short _ _ _ _ _ _ c.passes.ensures c.in_ok-passes.was _ c.passes-2.ensures _ c.in_err-passes-2.was))

pub returns-in_err-sheet : goal.returns-in_err-sheet
returns-in_err-sheet c =
    let returned = err_from_is_err_and c.from_residual-in_err-sheet.result c.from_residual-in_err-sheet.ensures.1 in
    let said = c.in_err-sheet.ensures in
    rw (returned.1, returned.2) (gr_out _ _ _ _ _ _ (judged_fine (goal.at.returns-in_err-sheet c).In_ok-passes-2 ∙ sym said))

pub shared_ref_as_front-lines : goal.shared_ref_as_front-lines
shared_ref_as_front-lines c = let said = c.in_ok-sheet.ensures in (gr_count c.args.text.now _ _ (sym said)).0

pub returns : goal.returns
unfolding gr_rules
returns c =
    let said = c.in_ok-sheet.ensures in
    let count = gr_count c.args.text.now _ _ (sym said) in
    let room = gr_room c.args.tails.now c.args.heads.now c.args.weights.now c.args.closures.now (passed _ _ (sym c.passes-2.ensures ∙ c.in_ok-passes-2.was)) in
    let m = c.in_ok-sheet.sheet.problem.second in
    let front : length (take m c.args.closures.now) ≡ m = length-take-le m c.args.closures.now (omega (arith, count.0, room.3)) in
    gr_in _ _ _ _ _ _ _ _ _ _ _ (judged_fine (goal.at.returns c).In_ok-passes-2 ∙ sym said) count.1
    (c.put.ensures (column_of First) (λ ns v k. search (rules, tests)))
    (c.put-2.ensures (column_of Second) (λ ns v k. search (rules, tests)))
    (c.put-3.ensures (column_of Third) (λ ns v k. search (rules, tests)))
    (rw (c.fill.ensures.after (λ y h. search rules), front))
