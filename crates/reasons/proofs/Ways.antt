-- What a search tells of the shortest way.
use Prim.Native.Nat.{ℕ, ◌≤◌}
use native.Mathlib.Omega.{arith}
use mathlib.Core.Path.{◌≡◌}
use mathlib.Core.Bool.{true, false}
use lib.ListN.{replicate, length-replicate}
use Rattle.walks.proofs.WalkLaws.{backward}
use Rattle.walks.specs.Rows.{Rows, is_open, laid, network, turned, Sound}
use Rattle.walks.proofs.LeastLaws.{best_dist, dist_turned}
use Rattle.settling.specs.declared.Outcome.{Outcome}
use Rattle.settling.specs.Labels.{length_of}
use Rattle.settling.specs.Run.{search_of}
use Rattle.settling.proofs.SearchIsRight.{search_found, search_missed}
use Rattle.std.specs.Prelude.{Option, Some, None}
use Rattle.reasons.specs.Steps.{IsWay}

module _ {R : Rows} {n m : ℕ} (sound : Sound n m R) {s t : ℕ} (low : 1 ≤ s) (high : s ≤ n) {o : Outcome} (run : o ≡ search_of R (is_open R.closures) n m t s) where
  pub way_cut : o.found ≡ false → IsWay (network m R) s t None
  unfolding network
  way_cut e = (search_missed sound {keep = is_open R.closures} low high t (rw run at e)).none

  pub way_leads : o.found ≡ true → IsWay (network m R) s t (Some (length_of o.labels t))
  unfolding network
  way_leads e =
      rw run (
      let a = search_found sound {keep = is_open R.closures} low high t (rw run at e) (replicate 512 0) (omega (arith, sound.nodes_high, length-replicate {A = ℕ} 512 0)) in
      (a.near, best_dist a.found.best))

-- a way from t to v by the arcs turned round is one from v to t
module _ (m : ℕ) (R : Rows) (t v : ℕ) where
  pub way_back : (w : Option ℕ) → IsWay (network m (turned R)) t v w → IsWay (network m R) v t w
  unfolding laid network
  way_back (Some l) h = (h.0, dist_turned h.1)
  way_back None h = λ r. h (record { length = r.length; count = r.count; walk = backward r.walk })
