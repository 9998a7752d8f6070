-- The label arrays as the mathematics of searches sees them.
use Rattle.std.specs.Prelude.{ℕ, ◌<◌, ◌≤◌, true, ◌≡◌}
use Rattle.walks.specs.Settling.{Labelling}
use Rattle.settling.specs.declared.Labels.{Labels}
use Rattle.settling.specs.Labels.{none, length_of, arcs_of, settled_of}

-- node v of 1..n has a label where its length is below `none`, and is settled where it is marked
unfoldable pub seen : ℕ → Labels → Labelling
seen n L = record {
  Labelled = λ v. (1 ≤ v) × (v ≤ n) × (length_of L v < none);
  Settled = λ v. (1 ≤ v) × (v ≤ n) × (settled_of L v ≡ true);
  length = length_of L;
  arcs = arcs_of L;
}
