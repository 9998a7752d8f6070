-- The smallest box is one only, and the hull is the smallest of two.
use Rattle.std.proofs.Common.{◌≡◌, ◌⊎◌, ℤ, ◌≤ℤ◌, refl, inl, inr, ⊎_elim}
use lib.Signed.{≤ℤ_refl}
use Rattle.geometry.specs.Box.{Box, Holds, Upright, Encloses, Smallest}
use Rattle.geometry.specs.Hull.{place_box, hull, grown}
use Rattle.geometry.proofs.Order.{≤ℤ-trans, ≤ℤ-antisymm, smaller_left, smaller_right, larger_left, larger_right, smaller_both, larger_both}

-- ---- a box that no side reverses holds its corners, so it is enclosed by its sides

pub low_corner : {b : Box} → Upright b → Holds b b.left b.low
low_corner {b} p = record { west = ≤ℤ_refl b.left; east = p.across; south = ≤ℤ_refl b.low; north = p.upward }

pub high_corner : {b : Box} → Upright b → Holds b b.right b.high
high_corner {b} p = record { west = p.across; east = ≤ℤ_refl b.right; south = p.upward; north = ≤ℤ_refl b.high }

-- c's sides are outside b's
pub record Outside (c b : Box) : Type 0 where
  pub west : c.left ≤ℤ b.left
  pub east : b.right ≤ℤ c.right
  pub south : c.low ≤ℤ b.low
  pub north : b.high ≤ℤ c.high

pub outside_encloses : {c b : Box} → Outside c b → Encloses c b
outside_encloses a x y h =
    record {
      west = ≤ℤ-trans a.west h.west;
      east = ≤ℤ-trans h.east a.east;
      south = ≤ℤ-trans a.south h.south;
      north = ≤ℤ-trans h.north a.north;
    }

pub encloses_outside : {c b : Box} → Upright b → Encloses c b → Outside c b
encloses_outside {c} {b} p e =
    let l = e b.left b.low (low_corner p) in
    let h = e b.right b.high (high_corner p) in
    record { west = l.west; east = h.east; south = l.south; north = h.north }

pub same_box : {b c : Box} → b.left ≡ c.left → b.right ≡ c.right → b.low ≡ c.low → b.high ≡ c.high → b ≡ c
same_box {b} {c} p q r s = made b.left c.left b.right c.right b.low c.low b.high c.high p q r s
  where
    make : ℤ → ℤ → ℤ → ℤ → Box
    make l r d u = record { left = l; right = r; low = d; high = u }

    made : (l l' r r' d d' u u' : ℤ) → l ≡ l' → r ≡ r' → d ≡ d' → u ≡ u' → make l r d u ≡ make l' r' d' u'
    made l l' r r' d d' u u' e f g h = rw (e, f, g, h)

pub outside_antisymm : {b c : Box} → Outside b c → Outside c b → b ≡ c
outside_antisymm p q =
    same_box (≤ℤ-antisymm p.west q.west) (≤ℤ-antisymm q.east p.east) (≤ℤ-antisymm p.south q.south) (≤ℤ-antisymm q.north p.north)

-- ---- the smallest box

pub smallest_unique : {P : ℤ → ℤ → Type 0} {b c : Box} → Upright b → Upright c → Smallest P b → Smallest P c → b ≡ c
smallest_unique {P} {b} {c} pb pc sb sc =
    outside_antisymm (encloses_outside pc (sc.least b sb.holds)) (encloses_outside pb (sb.least c sc.holds))

-- it goes by the points alone
pub smallest_same : {P Q : ℤ → ℤ → Type 0} {b : Box} → ((x y : ℤ) → P x y → Q x y) → ((x y : ℤ) → Q x y → P x y) → Smallest P b → Smallest Q b
smallest_same f g s =
    record { holds = λ x y q. s.holds x y (g x y q); least = λ c h. s.least c (λ x y p. h x y (f x y p)) }

-- a box is the smallest around what it holds
pub smallest_self : (b : Box) → Smallest (Holds b) b
smallest_self b = record { holds = λ x y h. h; least = λ c h. h }

abbrev pub IsPlace : ℤ → ℤ → ℤ → ℤ → Type 0
IsPlace px py x y = (x ≡ px) × (y ≡ py)

pub place_upright : (x y : ℤ) → Upright (place_box x y)
place_upright x y = record { across = ≤ℤ_refl x; upward = ≤ℤ_refl y }

pub place_smallest : (px py : ℤ) → Smallest (IsPlace px py) (place_box px py)
place_smallest px py =
    record {
      holds = λ x y e. moved e (low_corner (place_upright px py));
      least = λ c h. outside_encloses (let k = h px py (refl, refl) in record { west = k.west; east = k.east; south = k.south; north = k.north });
    }
  where
    moved : {b : Box} {x y u v : ℤ} → (x ≡ u) × (y ≡ v) → Holds b u v → Holds b x y
    moved {b} {x} {y} {u} {v} e h = rw (e.0, e.1) h

-- the hull of two boxes holds what either holds, and is the smallest that does
pub hull_smallest : {P Q : ℤ → ℤ → Type 0} {b c : Box} → Upright b → Upright c → Smallest P b → Smallest Q c → Smallest (λ x y. P x y ⊎ Q x y) (hull b c)
hull_smallest {P} {Q} {b} {c} pb pc sb sc =
    record {
      holds = λ x y. ⊎_elim (λ p. outside_encloses one x y (sb.holds x y p)) (λ q. outside_encloses two x y (sc.holds x y q));
      least = λ d h. outside_encloses (both d (encloses_outside pb (sb.least d (λ x y p. h x y (inl p)))) (encloses_outside pc (sc.least d (λ x y q. h x y (inr q)))));
    }
  where
    one : Outside (hull b c) b
    one = record { west = smaller_left b.left c.left; east = larger_left b.right c.right; south = smaller_left b.low c.low; north = larger_left b.high c.high }

    two : Outside (hull b c) c
    two = record { west = smaller_right b.left c.left; east = larger_right b.right c.right; south = smaller_right b.low c.low; north = larger_right b.high c.high }

    both : (d : Box) → Outside d b → Outside d c → Outside d (hull b c)
    both d p q =
        record {
          west = smaller_both (λ z. d.left ≤ℤ z) p.west q.west;
          east = larger_both (λ z. z ≤ℤ d.right) p.east q.east;
          south = smaller_both (λ z. d.low ≤ℤ z) p.south q.south;
          north = larger_both (λ z. z ≤ℤ d.high) p.north q.north;
        }

pub hull_upright : {b : Box} (c : Box) → Upright b → Upright (hull b c)
hull_upright {b} c p =
    record {
      across = ≤ℤ-trans (smaller_left b.left c.left) (≤ℤ-trans p.across (larger_left b.right c.right));
      upward = ≤ℤ-trans (smaller_left b.low c.low) (≤ℤ-trans p.upward (larger_left b.high c.high));
    }

-- growing by a point is the hull with the point's box, by definition
pub grown_smallest : {P : ℤ → ℤ → Type 0} {b : Box} (px py : ℤ) → Upright b → Smallest P b → Smallest (λ x y. P x y ⊎ IsPlace px py x y) (grown b px py)
grown_smallest px py p s = hull_smallest p (place_upright px py) s (place_smallest px py)

pub grown_upright : {b : Box} (px py : ℤ) → Upright b → Upright (grown b px py)
grown_upright px py p = hull_upright (place_box px py) p
