-- Tests that spare the shortest walks from s to t: they keep every arc of them.
use mathlib.Core.Path.{◌≡◌, sym}
use Prim.Native.Nat.{ℕ, ◌+◌}
use native.Mathlib.Omega.{arith}
use Rattle.walks.specs.Walk.{Net, Walk, then}
use Rattle.walks.proofs.WalkLaws.{single, join, starts_at}
use Rattle.walks.specs.Least.{Dist}
use Rattle.walks.proofs.LeastLaws.{dist_sized, first_part, second_part}
use Rattle.walks.specs.Through.{InS, Consistent}

-- e is an arc of some shortest walk from s to t
pub record OnShortest (N : Net) (s t e : ℕ) : Type 0 where
  pub before : ℕ
  pub after : ℕ
  pub arc : N.Arc e
  pub to_tail : Dist N s (N.tail e) before
  pub from_head : Dist N (N.head e) t after
  pub whole : Dist N s t (before + N.weight e + after)

-- a test on arcs keeps every arc of the shortest walks from s to t
pub record Spares (N : Net) (s t : ℕ) (Keep : ℕ → Type 0) : Type 0 where
  pub keeps : (e : ℕ) → OnShortest N s t e → Keep e

-- v is a node of some shortest walk from s to t
pub record Between (N : Net) (s t v : ℕ) : Type 0 where
  pub before : ℕ
  pub after : ℕ
  pub there : Dist N s v before
  pub onward : Dist N v t after
  pub whole : Dist N s t (before + after)

module _ {N : Net} {s t e : ℕ} where
  -- an arc between two parts that make up a shortest walk
  pub arc_on : {a k b j : ℕ} → N.Arc e → Walk N s (N.tail e) a k → Walk N (N.head e) t b j → Dist N s t (a + N.weight e + b) → OnShortest N s t e
  arc_on {a} {b = b} x w r d = record {
    before = a;
    after = b;
    arc = x;
    to_tail = first_part w (join (single e x) r) (dist_sized (omega arith) d);
    from_head = second_part (then e x w) r d;
    whole = d;
  }

  -- an arc into a node of a shortest walk, on a shortest way there
  pub on_into : {v a k : ℕ} → (o : Between N s t v) → N.Arc e → N.head e ≡ v → Walk N s (N.tail e) a k → o.before ≡ a + N.weight e → OnShortest N s t e
  on_into o x p w q = arc_on x w (starts_at (sym p) o.onward.walk) (dist_sized (omega arith) o.whole)

  pub on_InS : OnShortest N s t e → InS N e t
  on_InS o = record {
    rest = o.after;
    arc = o.arc;
    from_head = o.from_head;
    from_tail = second_part o.to_tail.walk (join (single e o.arc) o.from_head.walk) (dist_sized (omega arith) o.whole);
  }

  pub on_tail : OnShortest N s t e → Between N s t (N.tail e)
  unfolding on_InS
  on_tail o = record {
    before = o.before;
    after = N.weight e + o.after;
    there = o.to_tail;
    onward = (on_InS o).from_tail;
    whole = dist_sized (omega arith) o.whole;
  }

-- a consistent test, put to the target, spares every shortest walk
pub consistent_spares : {N : Net} {Keep : ℕ → ℕ → Type 0} → Consistent N Keep → (s t : ℕ) → Spares N s t (λ e. Keep e t)
consistent_spares h s t = record { keeps = λ e o. h.keeps e t (on_InS o) }
