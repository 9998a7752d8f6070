-- What the look for the lowest arc, and then its lowest node, finds.
use Prim.Native.Nat.{ℕ, zero, suc, ◌≤◌, ◌<◌}
use mathlib.Core.Path.{◌≡◌, ap, ◌∙◌}
use mathlib.Core.Bool.{Bool, true, false}
use native.Mathlib.Omega.{arith}
use native.Mathlib.Decide.{ℕ_discrete}
use borrow.Author.Tests.{eqb-true, eqb-false}
use lib.Dec.{eqb}
use Rattle.std.specs.Prelude.{Option, Some, None}
use Rattle.std.proofs.lemmas.Bool.{cond_both}
use Rattle.drawing.specs.declared.compare.Miss.{Miss}
use Rattle.drawing.specs.Missed.{IsFirst}
use Rattle.worked.proofs.Computed.{lowest_node, or_arc, lowest_arc}

module _ (test : ℕ → ℕ → Bool) (n : ℕ) where
  -- what lowest_node finds among 1..k
  record Node (e k v : ℕ) : Type 0 where
    most : v ≤ k
    none : v ≡ 0 → (j : ℕ) → 1 ≤ j → j ≤ k → test j e ≡ false
    passes : 1 ≤ v → test v e ≡ true
    first : (j : ℕ) → 1 ≤ j → j < v → test j e ≡ false

  lowest_node_lem : (e k : ℕ) → Node e k (lowest_node test n e k)
  unfolding lowest_node
  lowest_node_lem e zero = record { most = omega arith; none = λ z j low high. absurd (omega arith); passes = λ h. absurd (omega arith); first = λ j low high. absurd (omega arith) }
  lowest_node_lem e (suc k) =
      let r = lowest_node_lem e k in
      let v = lowest_node test n e k in
      cond_both (eqb v 0) _ _ (Node e (suc k))
      (λ z. let v0 = eqb-true v 0 z in cond_both (test (suc k) e) _ _ (Node e (suc k))
      (λ p. record {
        most = omega arith;
        none = λ q. absurd (omega arith);
        passes = λ h. p;
        first = λ j low high. r.none v0 j low (omega arith);
      })
      (λ p. record {
        most = omega arith;
        none = λ q j low high. elim (ℕ_discrete j (suc k)) [ yes same ↦ ap (λ (i : ℕ). test i e) same ∙ p | no other ↦ r.none v0 j low (omega arith) ];
        passes = λ h. absurd (omega arith);
        first = λ j low high. absurd (omega arith);
      }))
      (λ z. record {
        most = omega (arith, r.most);
        none = λ q. absurd (eqb-false v 0 z q);
        passes = r.passes;
        first = r.first;
      })

  or_arc_lem : (k : ℕ) (found : Option Miss) (v : ℕ) → IsFirst test n k found → Node (suc k) n v → IsFirst test n (suc k) (or_arc test n found (suc k) v)
  unfolding or_arc
  or_arc_lem k (Some miss) v h r = record {
    arc_low = h.arc_low;
    arc_high = omega (arith, h.arc_high);
    node_low = h.node_low;
    node_high = h.node_high;
    passes = h.passes;
    arc_first = h.arc_first;
    node_first = h.node_first;
  }
  or_arc_lem k None v h r =
      cond_both (eqb v 0) _ _ (IsFirst test n (suc k))
      (λ z. λ t e a b c d. elim (ℕ_discrete e (suc k)) [ yes same ↦ ap (test t) same ∙ r.none (eqb-true v 0 z) t a b | no other ↦ h t e a b c (omega arith) ])
      (λ z. record {
        arc_low = omega arith;
        arc_high = omega arith;
        node_low = let q = eqb-false v 0 z in omega arith;
        node_high = r.most;
        passes = r.passes (let q = eqb-false v 0 z in omega arith);
        arc_first = λ j i a b c d. h j i a b c (omega arith);
        node_first = r.first;
      })

  pub lowest_arc_lem : (k : ℕ) → IsFirst test n k (lowest_arc test n k)
  unfolding lowest_arc
  lowest_arc_lem zero = λ t e a b c d. absurd (omega arith)
  lowest_arc_lem (suc k) = or_arc_lem k (lowest_arc test n k) _ (lowest_arc_lem k) (lowest_node_lem (suc k) n)
