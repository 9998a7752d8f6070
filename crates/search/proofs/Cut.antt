-- Rows cut to the places that a call needs hold the same network.
use Prim.Native.Nat.{ℕ, ◌≤◌}
use mathlib.Core.Path.{sym}
use Rattle.walks.specs.Rows.{Rows, laid, network}
use Rattle.judging.specs.Cut.{cut}
use Rattle.judging.proofs.CutLaws.{at_cut}
use Rattle.walks.proofs.Alike.{Alike}

pub network-cut : (m : ℕ) (R : Rows) → Alike (network m R) (network m (cut m R))
unfolding laid network
network-cut m R = record {
  there = λ e a. (a.0, rw (at_cut m R.closures e a.0.0 a.0.1) a.1);
  back = λ e a. (a.0, rw (at_cut m R.closures e a.0.0 a.0.1) at a.1);
  tail = λ e a. sym (at_cut m R.tails e a.0.0 a.0.1);
  head = λ e a. sym (at_cut m R.heads e a.0.0 a.0.1);
  weight = λ e a. sym (at_cut m R.weights e a.0.0 a.0.1);
}

-- an arc of the network is one of 1..m
pub arc_in : (m : ℕ) (R : Rows) (e : ℕ) → (network m R).Arc e → (1 ≤ e) × (e ≤ m)
unfolding laid network
arc_in m R e a = (a.0.0, a.0.1)
