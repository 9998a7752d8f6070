-- `listing::journeys::put_journeys` meets its contract.
use Rattle.std.proofs.Common.{◌≡◌, ◌≤◌, ◌*◌, length}
use Rattle.listing.specs.Journeys.{journeys_text}
use Rattle.listing.proofs.journeys.put_journeys.Given as goal

abbrev pub invariant-loop-i : goal.invariant-loop-i
invariant-loop-i l = (l.page ≡ journeys_text l.sources l.targets l.lengths l.i) × (length l.page ≤ 33 * l.i)
