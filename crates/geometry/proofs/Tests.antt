-- The tests of boxes and places, and what they say.
use Rattle.std.proofs.Common.{◌≡◌, Bool, true, false, ◌&&◌, ◌||◌, T, ◌⊎◌, ℤ, pos, ◌≤ℤ◌, sym, refl, ap, subst, inl, inr, ⊎_elim}
use lib.Signed.{le_z}
use Rattle.rules.proofs.AndLaws.{and_true, and_yes}
use Rattle.rules.specs.Limits.{least_coordinate, most_coordinate}
use Rattle.geometry.specs.Box.{Box, Holds, holds_b, Within, within_b, Sided, mark, WellShaped, sides, nothing, sides_b, same_b, no_sides_b, well_shaped_b}
use Rattle.geometry.proofs.Order.{≤ℤ-trans, ≤ℤ-antisymm}
use Rattle.geometry.proofs.SmallestLaws.{same_box}

-- ---- A comparison

le_yes : {a b : ℤ} → le_z a b ≡ true → a ≤ℤ b
le_yes e = record { le = subst T (sym e) tt }

pub yes_le : (a b : ℤ) → a ≤ℤ b → le_z a b ≡ true
yes_le a b h = is (le_z a b) h.le
  where
    is : (t : Bool) → T t → t ≡ true
    is true h = refl
    is false h = absurd h

-- ---- A place within limits

pub within-yes : (z : ℤ) → within_b z ≡ true → Within z
within-yes z t =
    let p = and_true (le_z least_coordinate z) (le_z z most_coordinate) t in
    record { above = le_yes p.0; below = le_yes p.1 }

pub yes-within : (z : ℤ) → Within z → within_b z ≡ true
yes-within z h = and_yes (yes_le least_coordinate z h.above) (yes_le z most_coordinate h.below)

pub place-yes : (x y : ℤ) → within_b x && within_b y ≡ true → Within x × Within y
place-yes x y t = let p = and_true (within_b x) (within_b y) t in (within-yes x p.0, within-yes y p.1)

-- ---- A box holds a place

module _ (b : Box) (x y : ℤ) where
  pub holds_yes : holds_b b x y ≡ true → Holds b x y
  holds_yes t =
      let p = and_true (le_z b.left x && le_z x b.right && le_z b.low y) (le_z y b.high) t in
      let q = and_true (le_z b.left x && le_z x b.right) (le_z b.low y) p.0 in
      let r = and_true (le_z b.left x) (le_z x b.right) q.0 in
      record { west = le_yes r.0; east = le_yes r.1; south = le_yes q.1; north = le_yes p.1 }

  pub yes_holds : Holds b x y → holds_b b x y ≡ true
  yes_holds h =
      and_yes
      (and_yes (and_yes (yes_le b.left x h.west) (yes_le x b.right h.east)) (yes_le b.low y h.south))
      (yes_le y b.high h.north)

-- ---- Two sides

record Sides (a b : ℤ) : Type 0 where
  above : least_coordinate ≤ℤ a
  across : a ≤ℤ b
  below : b ≤ℤ most_coordinate

sides_yes : (a b : ℤ) → sides_b a b ≡ true → Sides a b
sides_yes a b t =
    let p = and_true (le_z least_coordinate a && le_z a b) (le_z b most_coordinate) t in
    let q = and_true (le_z least_coordinate a) (le_z a b) p.0 in
    record { above = le_yes q.0; across = le_yes q.1; below = le_yes p.1 }

yes_sides : {a b : ℤ} → Within a → Within b → a ≤ℤ b → sides_b a b ≡ true
yes_sides {a} {b} p q l = and_yes (and_yes (yes_le least_coordinate a p.above) (yes_le a b l)) (yes_le b most_coordinate q.below)

same_yes : (a b : ℤ) → same_b a b ≡ true → a ≡ b
same_yes a b t = let p = and_true (le_z a b) (le_z b a) t in ≤ℤ-antisymm (le_yes p.0) (le_yes p.1)

no_sides_yes : (a b : ℤ) → no_sides_b a b ≡ true → (a ≡ pos 1) × (b ≡ pos 0)
no_sides_yes a b t =
    let p = and_true (same_b a (pos 1)) (same_b b (pos 0)) t in
    (same_yes a (pos 1) p.0, same_yes b (pos 0) p.1)

-- ---- A well-shaped box

-- one of two tests passes
either_yes : (a b : Bool) → a || b ≡ true → (a ≡ true) ⊎ (b ≡ true)
either_yes true b e = inl refl
either_yes false b e = inr e

module _ (b : Box) where
  sided_yes : sides_b b.left b.right && sides_b b.low b.high ≡ true → Sided b
  sided_yes t =
      let p = and_true (sides_b b.left b.right) (sides_b b.low b.high) t in
      let h = sides_yes b.left b.right p.0 in
      let v = sides_yes b.low b.high p.1 in
      record {
        upright = record { across = h.across; upward = v.across };
        left_in = record { above = h.above; below = ≤ℤ-trans h.across h.below };
        right_in = record { above = ≤ℤ-trans h.above h.across; below = h.below };
        low_in = record { above = v.above; below = ≤ℤ-trans v.across v.below };
        high_in = record { above = ≤ℤ-trans v.above v.across; below = v.below };
      }

  mark-yes : no_sides_b b.left b.right && no_sides_b b.low b.high ≡ true → b ≡ mark
  mark-yes t =
      let p = and_true (no_sides_b b.left b.right) (no_sides_b b.low b.high) t in
      let h = no_sides_yes b.left b.right p.0 in
      let v = no_sides_yes b.low b.high p.1 in
      same_box h.0 h.1 v.0 v.1

  pub shaped_yes : well_shaped_b b ≡ true → WellShaped b
  shaped_yes t =
      ⊎_elim (λ h. sides (sided_yes h)) (λ h. nothing (mark-yes h))
      (either_yes (sides_b b.left b.right && sides_b b.low b.high) (no_sides_b b.left b.right && no_sides_b b.low b.high) t)

pub yes_shaped : (b : Box) → WellShaped b → well_shaped_b b ≡ true
yes_shaped b (sides s) =
    rw (yes_sides s.left_in s.right_in s.upright.across, yes_sides s.low_in s.high_in s.upright.upward) refl
yes_shaped b (nothing e) = ap well_shaped_b e
