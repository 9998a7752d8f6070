-- Rows turned round, the arc at a place of the lists, and rows with no arc closed.
use mathlib.Core.Path.{◌≡◌, refl}
use Prim.Native.Nat.{ℕ, ◌+◌, ◌-◌, ◌<◌, ◌≤◌}
use native.Mathlib.Omega.{arith}
use borrow.Author.Tests.{eq-eqb}
use lib.ListN.{get_or}
use Rattle.walks.specs.Walk.{reverse}
use Rattle.walks.specs.Rows.{Rows, Sound, SoundArc, at, laid, is_open, network, turned}
use Rattle.walks.proofs.WalkLaws.{kept_each}

pub turned-laid : (m : ℕ) (R : Rows) → laid m (turned R) ≡ reverse (laid m R)
unfolding laid
turned-laid m R = refl

pub turned-network : (m : ℕ) (R : Rows) → network m (turned R) ≡ reverse (network m R)
unfolding laid network
turned-network m R = refl

turned_arc : {n tail head weight : ℕ} → SoundArc n tail head weight → SoundArc n head tail weight
turned_arc a = record {
  tail_low = a.head_low;
  tail_high = a.head_high;
  head_low = a.tail_low;
  head_high = a.tail_high;
  weight_high = a.weight_high;
}

pub turned_sound : {n m : ℕ} {R : Rows} → Sound n m R → Sound n m (turned R)
turned_sound s = record {
  nodes_low = s.nodes_low;
  nodes_high = s.nodes_high;
  arcs_high = s.arcs_high;
  tails_long = s.heads_long;
  heads_long = s.tails_long;
  weights_long = s.weights_long;
  closures_long = s.closures_long;
  arcs = λ e low high. turned_arc (s.arcs e low high);
}

-- the arc at place j of the lists, which is arc j + 1
pub arc_at : {n m : ℕ} {R : Rows} → Sound n m R → (j : ℕ) → j < m → SoundArc n (get_or R.tails j 0) (get_or R.heads j 0) (get_or R.weights j 0)
arc_at {n} {m} {R} s j h =
    let p : j + 1 - 1 ≡ j = omega arith in
    rw p at (s.arcs (j + 1) (omega arith) (omega arith))

-- where every closure is 0 the network has all the arcs
pub open_network : (m : ℕ) (R : Rows) → ((e : ℕ) → 1 ≤ e → e ≤ m → at R.closures e ≡ 0) → network m R ≡ laid m R
unfolding laid network
open_network m R all = kept_each (laid m R) (is_open R.closures) (λ e a. eq-eqb _ 0 (all e a.0 a.1))
