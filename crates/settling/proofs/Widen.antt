-- What is lent serves more nodes, and its arcs can be linked by either end.
use Prim.Native.Nat.{ℕ}
use native.Mathlib.Omega.{arith}
use Rattle.frontier.specs.Chain.{Ends}
use Rattle.walks.specs.Rows.{Rows, Sound}
use Rattle.walks.proofs.RowsLaws.{arc_at, turned_sound}

-- rows of a network of n nodes are rows of one of 512 nodes, as many as the label arrays have places
pub widened : {n m : ℕ} {R : Rows} → Sound n m R → Sound 512 m R
widened s = record {
  nodes_low = omega arith;
  nodes_high = omega arith;
  arcs_high = s.arcs_high;
  tails_long = s.tails_long;
  heads_long = s.heads_long;
  weights_long = s.weights_long;
  closures_long = s.closures_long;
  arcs = λ e low high.
      let a = s.arcs e low high in
      record { tail_low = a.tail_low; tail_high = omega (arith, a.tail_high, s.nodes_high); head_low = a.head_low; head_high = omega (arith, a.head_high, s.nodes_high); weight_high = a.weight_high };
}

-- the ends of the arcs, as they are linked
pub tails_ends : {n m : ℕ} {R : Rows} → Sound n m R → Ends m R.tails
tails_ends s = record {
  few = s.arcs_high;
  long = s.tails_long;
  node = λ j h. let a = arc_at (widened s) j h in (a.tail_low, a.tail_high);
}

pub heads_ends : {n m : ℕ} {R : Rows} → Sound n m R → Ends m R.heads
heads_ends s = tails_ends (turned_sound s)
