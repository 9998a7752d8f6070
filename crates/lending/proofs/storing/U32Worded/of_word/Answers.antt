-- `lending::storing::U32Worded::of_word` meets its contract.
use Rattle.std.proofs.Common.{ap, sym, ◌∙◌}
use Rattle.lending.specs.Lending.{count_in}
use Rattle.lending.proofs.StoreLaws.{judged_ok}
use Rattle.lending.proofs.storing.U32Worded.of_word.Goals as goal

pub returns-clause-value : goal.returns-clause-value
unfolding count_in
returns-clause-value c = λ h. c.read_count.ensures ∙ judged_ok _ _ (λ v e. ap count_in (sym e)) h
