-- `lending::storing::I32Worded::of_word` meets its contract.
use Rattle.std.proofs.Common.{ap, sym, ◌∙◌}
use Rattle.lending.specs.Lending.{whole_in}
use Rattle.lending.proofs.StoreLaws.{judged_ok}
use Rattle.lending.proofs.storing.I32Worded.of_word.Goals as goal

pub returns-clause-value : goal.returns-clause-value
unfolding whole_in
returns-clause-value c = λ h. c.read_signed.ensures ∙ judged_ok _ _ (λ v e. ap whole_in (sym e)) h
