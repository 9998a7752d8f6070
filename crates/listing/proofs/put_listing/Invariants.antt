-- `listing::put_listing` meets its contract.
use Rattle.std.proofs.Common.{◌≡◌, ◌≤◌, ◌*◌, length}
use Rattle.listing.specs.Listing.{listing}
use Rattle.listing.proofs.put_listing.Given as goal

abbrev pub invariant-loop-i : goal.invariant-loop-i
invariant-loop-i l = (l.page ≡ listing l.net.tails.now l.net.heads.now l.net.weights.now l.boxes l.i) × (length l.page ≤ 92 * l.i)
