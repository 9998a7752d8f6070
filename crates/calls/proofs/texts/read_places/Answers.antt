-- `calls::texts::read_places` meets its contract.
use Rattle.std.proofs.Common.{ap}
use Rattle.files.specs.File.{held_of}
use Rattle.calls.specs.Texts.{ReadsPlaces}
use Rattle.calls.proofs.texts.read_places.Goals as goal

pub returns-in_default-clause-reads : goal.returns-in_default-clause-reads
returns-in_default-clause-reads c = rw c.put_no_file.ensures.text (ReadsPlaces.no_file (ap held_of c.in_default.is))

pub returns-clause-reads : goal.returns-clause-reads
returns-clause-reads c = rw c.put_judged.ensures.text (ReadsPlaces.file c.read_co-read.result (ap held_of c.in-Some.is) c.read_co-read.ensures)
