-- `journeys::day::Journeys::run` meets its contract.
use Rattle.std.proofs.lemmas.Result.{err_from_is_err_and}
use Rattle.daylist.specs.Says.{text_refused}
use Rattle.daylist.proofs.ReadLaws as laws
use Rattle.loading.proofs.LoadingLaws.{not_read}
use Rattle.journeys.specs.Steps.{run_unread, run_refused, ran}
use Rattle.journeys.proofs.day.Journeys.run.Goals as goal

pub returns-in_err-text-clause-runs : goal.returns-in_err-text-clause-runs
returns-in_err-text-clause-runs c =
    let p = err_from_is_err_and c.from_residual.result c.from_residual.ensures.1 in
    let none = not_read _ c.in_err-text.ensures.value in
    rw (p.1, p.2, none.0, none.1) run_unread

-- a text that is refused is so before any row is judged
pub returns-in_err-self-clause-runs : goal.returns-in_err-self-clause-runs
returns-in_err-self-clause-runs c =
    let p = err_from_is_err_and c.from_residual-in_err-self.result c.from_residual-in_err-self.ensures.1 in
    rw (p.1, p.2, c.in_ok-text.ensures.ok_part) (run_refused (text_refused (laws.text_refused _ _ _ _ _ _ _ _ c.in_err-self.ensures)))

pub returns-in_err-totals-clause-runs : goal.returns-in_err-totals-clause-runs
returns-in_err-totals-clause-runs c =
    let p = err_from_is_err_and c.from_residual-in_err-totals.result c.from_residual-in_err-totals.ensures.1 in
    let net = c.network.ensures in
    let says = rw (net.rows, net.sizes.0, net.sizes.1) at c.in_err-totals.ensures in
    rw (p.1, p.2, c.in_ok-text.ensures.ok_part) (run_refused says)

pub returns-clause-runs : goal.returns-clause-runs
returns-clause-runs c =
    let net = c.network.ensures in
    let says = rw (net.rows, net.sizes.0, net.sizes.1) at c.in_ok-totals.ensures in
    rw c.in_ok-text.ensures.ok_part (ran c.in_ok-self.ensures says)

pub returns-clause-few : goal.returns-clause-few
returns-clause-few c = (laws.text_limits _ _ _ _ _ _ _ _ c.in_ok-self.ensures).0.queries
