-- The first node that a box or a mask misses, found node by node.
use Rattle.std.proofs.Common.{ℕ, ◌+◌, ◌-◌, ◌≤◌, ◌<◌, ◌≡◌, refl, ap, ◌∙◌, Bool, true, false, List, ℤ, Option, Some, None, MatchOption, arith}
use native.Mathlib.Decide.{ℕ_discrete}
use Rattle.walks.specs.Rows.{Rows}
use Rattle.rules.specs.declared.Asked.{Asked}
use Rattle.passing.specs.declared.Tests.{Tests}
use Rattle.passing.specs.Signs.{Signs}
use Rattle.passing.specs.Asking.{tests_toward, keeps}
use Rattle.drawing.specs.declared.compare.Miss.{Miss}
use Rattle.drawing.specs.Drawn.{mark_row, mark_of, Drawn}
use Rattle.drawing.specs.Leads.{leads_to, Marked}
use Rattle.drawing.specs.Missed.{misses_by, misses_node, FirstPlace, IsFirst}

-- so many arcs stand before the first miss; all m, if there is none
abbrev pub Below : ℕ → Option Miss → ℕ → Type 0
Below m None below = below ≡ m
Below m (Some miss) below = below + 1 ≡ miss.arc

-- no place below k passes a test, so none of the numbers 1..k does
by_number : (test : ℕ → Bool) {k : ℕ} → ((i : ℕ) → i < k → test (i + 1) ≡ false) → (i : ℕ) → 1 ≤ i → i ≤ k → test i ≡ false
by_number test h i low high = let back : i - 1 + 1 ≡ i = omega arith in rw back at (h (i - 1) (omega arith))

module _ (test : ℕ → ℕ → Bool) (m t below : ℕ) where
  -- of the nodes 1..t, none passes the test with an arc before that of the first miss
  before : (miss : Option Miss) → IsFirst test t m miss → Below m miss below → (below ≤ m) × ((j i : ℕ) → 1 ≤ j → j ≤ t → 1 ≤ i → i ≤ below → test j i ≡ false)
  before None none same = (omega arith, λ j i a b c d. none j i a b c (omega arith))
  before (Some miss) first next = (omega (arith, first.arc_high), λ j i a b c d. first.arc_first j i a b c (omega arith))

  -- the same up to the node t + 1
  more : (k : ℕ) → ((j i : ℕ) → 1 ≤ j → j ≤ t → 1 ≤ i → i ≤ k → test j i ≡ false) → ((i : ℕ) → i < k → test (t + 1) (i + 1) ≡ false)
      → (j i : ℕ) → 1 ≤ j → j ≤ t + 1 → 1 ≤ i → i ≤ k → test j i ≡ false
  more k old here j i low high low' high' = elim (ℕ_discrete j (t + 1)) [
    | yes same ↦ ap (λ (x : ℕ). test x i) same ∙ by_number (test (t + 1)) here i low' high'
    | no other ↦ old j i low (omega arith) low' high'
  ]

  -- the node t + 1 passes with no arc before the first miss, which stays the first
  pub miss_stays : (miss : Option Miss) → IsFirst test t m miss → Below m miss below → FirstPlace (test (t + 1)) below None
      → IsFirst test (t + 1) m miss
  miss_stays None first same none =
      let old = before None first same in
      λ j i a b c d. more below old.1 none j i a b c (omega arith)
  miss_stays (Some miss) first next none =
      let old = before (Some miss) first next in
      record {
        arc_low = first.arc_low;
        arc_high = first.arc_high;
        node_low = first.node_low;
        node_high = omega (arith, first.node_high);
        passes = first.passes;
        arc_first = λ j i a b c d. more below old.1 none j i a b c (omega arith);
        node_first = first.node_first;
      }

  -- or it passes with one
  pub miss_found : (miss : Option Miss) {e : ℕ} → IsFirst test t m miss → Below m miss below → FirstPlace (test (t + 1)) below (Some e)
      → IsFirst test (t + 1) m (Some (record { arc = e + 1; node = t + 1 }))
  miss_found miss {e} first next here =
      let old = before miss first next in
      record {
        arc_low = omega arith;
        arc_high = omega (arith, old.0, here.inside);
        node_low = omega arith;
        node_high = omega arith;
        passes = here.passes;
        arc_first = λ j i a b c d. more e (λ j i a b c d. old.1 j i a b c (omega (arith, here.inside))) here.fails j i a b c (omega arith);
        node_first = λ j a b. old.1 j (e + 1) a (omega arith) (omega arith) (omega (arith, here.inside));
      }

-- as `find` over the places tells it
pub place_found : (test : ℕ → Bool) (k : ℕ) (r : Option ℕ)
    → MatchOption r ((i : ℕ) → 0 ≤ i → i < k → test (i + 1) ≡ false)
    (λ e. (0 ≤ e) × (e < k) × (test (e + 1) ≡ true) × ((i : ℕ) → 0 ≤ i → i < e → test (i + 1) ≡ false))
    → FirstPlace test k r
place_found test k None h = λ i l. h i (omega arith) l
place_found test k (Some e) h = record { inside = h.1; fails = λ i l. h.3 i (omega arith) l; passes = h.2 }

-- a test that is the same for the numbers 1..k has the same first place
same_place : (test other : ℕ → Bool) (k : ℕ) (r : Option ℕ) → ((i : ℕ) → i < k → other (i + 1) ≡ test (i + 1)) → FirstPlace test k r → FirstPlace other k r
same_place test other k None same h = λ i l. same i l ∙ h i l
same_place test other k (Some e) same h = record {
  inside = h.inside;
  fails = λ i l. same i (omega (arith, h.inside)) ∙ h.fails i l;
  passes = same e h.inside ∙ h.passes;
}

-- by the marks of the arcs that lead to node t, and the sieve toward t
pub first_by_marks : (R : Rows) (n m : ℕ) (asked : Asked) (G : Signs) (t : ℕ) {tests : Tests} {boxes : List ℤ} {masks : List ℕ} {unmarked marked : List Bool} {k : ℕ} (r : Option ℕ)
    → Drawn mark_row k (Marked (leads_to R n m t)) unmarked marked
    → tests ≡ tests_toward asked G.x G.y G.modules t → boxes ≡ G.boxes → masks ≡ G.masks
    → FirstPlace (misses_by (mark_of marked) (keeps tests R.closures boxes masks)) k r → FirstPlace (misses_node R n m asked G t) k r
unfolding misses_node
first_by_marks R n m asked G t {tests} {boxes} {masks} {marked = marked} {k = k} r marks told lent lit h = same_place (misses_by (mark_of marked) (keeps tests R.closures boxes masks)) (misses_node R n m asked G t) k r same h
  where
    same : (i : ℕ) → i < k
        → misses_by (leads_to R n m t) (keeps (tests_toward asked G.x G.y G.modules t) R.closures G.boxes G.masks) (i + 1)
        ≡ misses_by (mark_of marked) (keeps tests R.closures boxes masks) (i + 1)
    same i l = rw (marks.entries (i + 1) (omega arith) (omega arith), told, lent, lit) refl
