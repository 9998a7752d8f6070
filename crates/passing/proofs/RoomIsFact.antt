-- That the rows serve what a sieve asks is a fact: it has one proof at most.
use Rattle.std.specs.Prelude.{◌≡◌, ℕ, ℤ, pos, ◌≤ℤ◌, List, Option, Some, None}
use Rattle.std.proofs.Common.{ap, subst}
use Rattle.std.proofs.Props.{props}
use Rattle.geometry.specs.Box.{Box, WellShaped, Sided, mark}
use Rattle.geometry.specs.Box.WellShaped.{sides, nothing}
use Rattle.passing.specs.declared.Place.{Place}
use Rattle.passing.specs.declared.Sieve.{Sieve}
use Rattle.passing.specs.Asking.{BoxRoom, MaskRoom}
use Rattle.passing.specs.Sieving.{RoomBy}

reversed : (b : Box) → Sided b → b ≡ mark → ⊥
reversed b s e = let h : pos 1 ≤ℤ pos 0 = subst (λ (c : Box). c.left ≤ℤ c.right) e s.upright.across in h.le

sided_prop : (b : Box) → IsProp (Sided b)
sided_prop b = hlevel props

marked_prop : (b : Box) → IsProp (b ≡ mark)
marked_prop b = hlevel props

shaped_prop : (b : Box) → IsProp (WellShaped b)
shaped_prop b (sides s) (sides r) = ap sides (sided_prop b s r)
shaped_prop b (sides s) (nothing e) = absurd (reversed b s e)
shaped_prop b (nothing e) (sides s) = absurd (reversed b s e)
shaped_prop b (nothing e) (nothing d) = ap nothing (marked_prop b e d)

box_prop : (p : Option Place) (m : ℕ) (boxes : List ℤ) → IsProp (BoxRoom p m boxes)
box_prop None m boxes = hlevel props
box_prop (Some p) m boxes = hlevel (props, shaped_prop)

mask_prop : (j : Option ℕ) (m : ℕ) (masks : List ℕ) → IsProp (MaskRoom j m masks)
mask_prop None m masks = hlevel props
mask_prop (Some j) m masks = hlevel props

pub room_prop : (S : Sieve) (m : ℕ) → IsProp (RoomBy S m)
room_prop S m = hlevel (props, box_prop, mask_prop)
