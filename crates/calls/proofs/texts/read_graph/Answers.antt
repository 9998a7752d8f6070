-- `calls::texts::read_graph` meets its contract.
use Rattle.std.proofs.Common.{ap, Ok, Err}
use Rattle.files.specs.File.{held_of}
use Rattle.calls.specs.Texts.{ReadsGraph}
use Rattle.calls.proofs.texts.read_graph.Goals as goal

pub returns-in_default-clause-reads : goal.returns-in_default-clause-reads
returns-in_default-clause-reads c = rw c.put_no_file.ensures.text (ReadsGraph.no_file (ap held_of c.in_default.is))

pub returns-in-Ok-clause-reads : goal.returns-in-Ok-clause-reads
returns-in-Ok-clause-reads c = rw c.put_sizes.ensures.text (ReadsGraph.file (Ok c.in-Ok.read) (ap held_of c.in-Some.is) c.in-Ok.ensures)

pub returns-in-Err-clause-reads : goal.returns-in-Err-clause-reads
returns-in-Err-clause-reads c = rw c.put_refusal.ensures.text (ReadsGraph.file (Err c.in-Err.why) (ap held_of c.in-Some.is) c.in-Err.ensures)
