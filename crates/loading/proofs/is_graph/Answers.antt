-- `loading::is_graph` meets its contract.
use mathlib.Core.Path.{◌∙◌}
use Rattle.loading.proofs.LoadingLaws.{graph_told}
use Rattle.loading.proofs.is_graph.Goals as goal

pub returns : goal.returns
returns c = c.is_ok.ensures.value ∙ graph_told (rw c.blank.ensures at c.read_graph.ensures.reads)
