-- `days::run_day` meets its contract.
use Rattle.std.proofs.Common.{ap}
use Rattle.files.specs.File.{held_of}
use Rattle.calls.specs.Texts.{RunsDay}
use Rattle.days.proofs.run_day.Goals as goal

pub returns-in_default-clause-runs : goal.returns-in_default-clause-runs
returns-in_default-clause-runs c = rw c.put_no_file.ensures.text (RunsDay.no_file (ap held_of c.in_default.is))

pub returns-clause-runs : goal.returns-clause-runs
returns-clause-runs c = rw c.put_day.ensures.text (RunsDay.file c.answer_all-day.result (ap held_of c.in-Some.is) c.answer_all-day.ensures)
