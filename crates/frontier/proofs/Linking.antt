-- Linking the arcs, from the last to the first.
use Prim.Native.Nat.{ℕ, ◌+◌, ◌-◌, ◌<◌, ◌≤◌}
use native.Mathlib.Omega.{arith}
use native.Mathlib.Decide.{ℕ_discrete}
use mathlib.Core.Path.{◌≡◌, sym, ap, ◌∙◌}
use mathlib.Core.List.{List}
use lib.ListN.{length, length-set, length-replicate, get_or, get_or-replicate, set, replicate}
use lib.Seq.{get_or-set_same, get_or-set_other}
use Rattle.frontier.specs.Chain.{Ends, From, Chained}

-- the arcs from place j on are linked
pub record Linked (m j : ℕ) (ends first next : List ℕ) : Type 0 where
  pub first_long : length first ≡ 512
  pub next_long : length next ≡ 2_048
  pub firsts : (u : ℕ) → 1 ≤ u → u ≤ 512 → From m ends u j (get_or first (u - 1) 0)
  pub nexts : (i : ℕ) → j ≤ i → i < m → From m ends (get_or ends i 0) (i + 1) (get_or next i 0)

pub linked_none : (m : ℕ) (ends next : List ℕ) → length next ≡ 2_048 → Linked m m ends (replicate 512 m) next
linked_none m ends next h = record {
  first_long = length-replicate 512 m;
  next_long = h;
  firsts = λ u low high.
      let e : get_or (replicate 512 m) (u - 1) 0 ≡ m = get_or-replicate 512 (u - 1) m 0 (omega arith) in
      rw e (record { low = omega arith; high = omega arith; skips = λ i l g. absurd (omega arith); holds = λ g. absurd (omega arith) });
  nexts = λ i l g. absurd (omega arith);
}

module _ {m j : ℕ} {ends first next : List ℕ} (e : Ends m ends) (low : 0 < j) (high : j ≤ m) (h : Linked m j ends first next) where
  abbrev u : ℕ
  u = get_or ends (j - 1) 0

  -- what follows a node's arcs from j on, if the arc before is another node's
  other : (v c : ℕ) → (u ≡ v → ⊥) → From m ends v j c → From m ends v (j - 1) c
  other v c n f = record {
    low = omega (arith, f.low);
    high = f.high;
    skips = λ i l g q. elim (ℕ_discrete i (j - 1)) [ yes s ↦ n (ap (λ (x : ℕ). get_or ends x 0) (sym s) ∙ q) | no s ↦ f.skips i (omega arith) g q ];
    holds = f.holds;
  }

  pub linked_turn : Linked m (j - 1) ends (set first (u - 1) (j - 1)) (set next (j - 1) (get_or first (u - 1) 0))
  linked_turn =
      let node = e.node (j - 1) (omega arith) in
      record {
        first_long = rw length-set h.first_long;
        next_long = rw length-set h.next_long;
        firsts = λ v l g. elim (ℕ_discrete u v) [
          | yes s ↦
              let q : get_or (set first (u - 1) (j - 1)) (v - 1) 0 ≡ j - 1 = rw (← s) (get_or-set_same first (u - 1) (j - 1) 0 (omega (arith, h.first_long))) in
              rw q (record { low = omega arith; high = omega arith; skips = λ i l g. absurd (omega arith); holds = λ g. s })
          | no s ↦
              let q : get_or (set first (u - 1) (j - 1)) (v - 1) 0 ≡ get_or first (v - 1) 0 = get_or-set_other first (u - 1) (v - 1) (j - 1) 0 (λ z. s (omega arith)) in
              rw q (other v _ s (h.firsts v l g))
        ];
        nexts = λ i l g. elim (ℕ_discrete i (j - 1)) [
          | yes s ↦
              let q : get_or (set next (j - 1) (get_or first (u - 1) 0)) i 0 ≡ get_or first (u - 1) 0 = rw s (get_or-set_same next (j - 1) _ 0 (omega (arith, h.next_long, e.few))) in
              let z : j - 1 + 1 ≡ j = omega arith in
              rw (q, s, z) (h.firsts u node.0 node.1)
          | no s ↦
              let q : get_or (set next (j - 1) (get_or first (u - 1) 0)) i 0 ≡ get_or next i 0 = get_or-set_other next (j - 1) i _ 0 s in
              rw q (h.nexts i (omega arith) g)
        ];
      }

pub linked_all : {m : ℕ} {ends first next : List ℕ} → Linked m 0 ends first next → Chained m ends first next
linked_all h = record { firsts = h.firsts; nexts = λ j g. h.nexts j (omega arith) g }
