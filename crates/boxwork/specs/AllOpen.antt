-- Request b, "nothing was lost": where every closure is 0, each call replies and writes what document 01 says of it, with the tight
-- box as request f has it. Each statement is proved, under the name that stands with it, in proofs/AllOpen.antt.
use Rattle.std.specs.Prelude.{ℕ, ◌-◌, ◌≤◌, ◌≡◌, ◌↔◌, true, List, [], ◌∷◌, ℤ, length, set}
use Rattle.rules.specs.Paper.{Reply}
use Rattle.rules.specs.Judging.{in_turn}
use Rattle.walks.specs.Rows.{Rows, at, laid}
use Rattle.judging.specs.Order.{arcs_judged, searched_by, placed_by, shaped_by, reweighing}
use Rattle.passing.specs.Signs.{nothing, boxes_alone, no_signs, box_signs}
use Rattle.passing.specs.Passing.{passing}
use Rattle.search.specs.Says.{Says, SearchSays, BoxedSays}
use Rattle.boxwork.specs.Says.{Builds, Checks, Updates, BuildSays, CheckSays, UpdateSays}

-- the closures of the arcs 1..m are there, and all are 0
pub record AllOpen (m : ℕ) (R : Rows) : Type 0 where
  pub long : m ≤ length R.closures
  pub all : (e : ℕ) → 1 ≤ e → e ≤ m → at R.closures e ≡ 0

-- the rows with another weight for an arc
abbrev pub reweighted : Rows → ℕ → ℕ → Rows
reweighted R arc weight = record {
  tails = R.tails;
  heads = R.heads;
  weights = set R.weights (arc - 1) weight;
  closures = R.closures;
}

-- ---- The calls of 01: no closure is judged, and every arc may be used

module _ (n m : ℕ) (R : Rows) where
  abbrev pub Search01 : ℕ → ℕ → List ℕ → Reply → List ℕ → Type 0
  Search01 s t before reply after = Says (searched_by (arcs_judged n m R) n m nothing no_signs s t (length before)) (laid m R) n s t before reply after

  module _ (x y boxes : List ℤ) where
    abbrev pub Boxed01 : ℕ → ℕ → List ℕ → Reply → List ℕ → Type 0
    Boxed01 s t before reply after =
        Says (searched_by (arcs_judged n m R) n m boxes_alone (box_signs x y boxes) s t (length before)) (passing boxes_alone (box_signs x y boxes) t (laid m R)) n s t before reply after

    abbrev pub Build01 : Reply → List ℤ → Type 0
    Build01 reply after = Builds (placed_by (arcs_judged n m R) n m boxes_alone (box_signs x y boxes) true) (laid m R) m boxes_alone (box_signs x y boxes) reply after []

    abbrev pub Check01 : Reply → Type 0
    Check01 reply = Checks (shaped_by (arcs_judged n m R) n m boxes_alone (box_signs x y boxes) true) (laid m R) boxes_alone (box_signs x y boxes) reply

    abbrev pub Update01 : ℕ → ℕ → Reply → Rows → List ℤ → Type 0
    Update01 arc weight reply rows after =
        let R' = reweighted R arc weight in
        let judged = in_turn (shaped_by (arcs_judged n m R) n m boxes_alone (box_signs x y boxes) true ∷ reweighing m arc weight ∷ []) in
        Updates judged R R' (laid m R') m x y boxes reply rows after

-- ---- Nothing was lost

module _ (n m : ℕ) (R : Rows) where
  -- `search_as_before`
  abbrev pub SearchAsBefore : Type 0
  SearchAsBefore =
      AllOpen m R → (s t : ℕ) (before after : List ℕ) (reply : Reply) → SearchSays n m R s t before reply after ↔ Search01 n m R s t before reply after

  module _ (x y boxes : List ℤ) where
    -- `boxed_as_before`
    abbrev pub BoxedAsBefore : Type 0
    BoxedAsBefore =
        AllOpen m R → (s t : ℕ) (before after : List ℕ) (reply : Reply)
        → BoxedSays n m R x y boxes s t before reply after ↔ Boxed01 n m R x y boxes s t before reply after

    -- `build_as_before`
    abbrev pub BuildAsBefore : Type 0
    BuildAsBefore = AllOpen m R → (reply : Reply) (after : List ℤ) → BuildSays n m R x y boxes reply after ↔ Build01 n m R x y boxes reply after

    -- `check_as_before`
    abbrev pub CheckAsBefore : Type 0
    CheckAsBefore = AllOpen m R → (reply : Reply) → CheckSays n m R x y boxes reply ↔ Check01 n m R x y boxes reply

    -- an update that leaves its arc open: `update_as_before`
    abbrev pub UpdateAsBefore : Type 0
    UpdateAsBefore =
        AllOpen m R → (arc weight : ℕ) (reply : Reply) (rows : Rows) (after : List ℤ)
        → UpdateSays n m R x y boxes arc weight 0 reply rows after ↔ Update01 n m R x y boxes arc weight reply rows after
