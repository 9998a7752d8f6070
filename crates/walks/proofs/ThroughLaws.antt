-- t is in S(e) exactly when some walk of least length from e's tail to t has e as its first arc.
use Prim.Native.Nat.{ℕ}
use native.Mathlib.Omega.{arith}
use Rattle.walks.specs.Walk.{Net, by_arc}
use Rattle.walks.proofs.WalkLaws.{single, join, by_walk, by_first, walk_by}
use Rattle.walks.specs.Through.{InS, Begins}

module _ {N : Net} {e t : ℕ} where
  pub InS_begins : InS N e t → Begins N e t
  InS_begins i =
      let x = walk_by i.from_head.walk in
      record { length = _; more = x.0; walk = by_arc e i.arc x.1; least = i.from_tail.least }

  pub begins_InS : Begins N e t → InS N e t
  begins_InS b =
      let x = by_first b.walk in
      let rest = by_walk x.3 in
      record {
        rest = x.0;
        arc = x.1;
        from_head = record { count = _; walk = rest; least = λ l j w. omega (arith, b.least _ _ (join (single e x.1) w)) };
        from_tail = record { count = _; walk = join (single e x.1) rest; least = λ l j w. omega (arith, b.least l j w) };
      }
