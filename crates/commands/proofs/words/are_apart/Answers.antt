-- `commands::words::are_apart` meets its contract.
use Rattle.std.proofs.Common.{rules, tests, not, eqb, length, ◌∙◌}
use Rattle.std.proofs.lemmas.Iterator.Search.{all_from_yields_List}
use Rattle.std.proofs.lemmas.Iterator.Splits.{YieldsList-from_slice_split}
use Rattle.commands.proofs.WordLaws.{fields_split, all_some}
use Rattle.commands.proofs.words.are_apart.Goals as goal

pub returns : goal.returns
returns c =
    let all =
    all_from_yields_List (λ w. not (eqb (length w) 0)) _ _ c.all.result c.all.ensures.ran
    (YieldsList-from_slice_split _ (λ b. eqb b 32) c.args.s.now c.split.ensures.rest c.split.ensures.done c.split.ensures.closure (λ x b q k. search (rules, tests)))
    (λ x b q k. search (rules, tests)) in
    all ∙ rw (fields_split c.args.s.now) (all_some _)
