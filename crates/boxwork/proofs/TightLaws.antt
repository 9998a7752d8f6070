-- Laws of the box around a set of nodes, and of updated boxes: there is one only, and it holds the set.
use Prim.Native.Nat.{ℕ, ◌≤◌}
use mathlib.Core.Path.{◌≡◌, refl, subst}
use mathlib.Core.Logic.{◌⊎◌, inl, inr}
use mathlib.Core.List.{List}
use lib.IntN.{ℤ}
use Rattle.walks.specs.Walk.{Net}
use Rattle.walks.specs.Rows.{Rows, Sound, laid, network}
use Rattle.walks.specs.Through.{InS}
use Rattle.walks.proofs.Limits.{sound_within, InS_node}
use Rattle.geometry.specs.Box.{Box, Holds, mark, Encloses, Smallest}
use Rattle.geometry.specs.Row.{coordinate}
use Rattle.geometry.proofs.SmallestLaws.{smallest_same}
use Rattle.geometry.proofs.MarkLaws.{shaped_unique, none-mark, mark_empty}
use Rattle.boxwork.specs.Tight.{PlaceIn, Around, Updated}

-- S(e) of sound rows is of an arc of 1..m, and has nodes of 1..n only
pub InS_range : {n m : ℕ} {R : Rows} {e t : ℕ} → Sound n m R → InS (network m R) e t → (1 ≤ e) × (e ≤ m) × (1 ≤ t) × (t ≤ n)
unfolding laid network
InS_range s i = let t = InS_node (sound_within s) i in (i.arc.0.0, i.arc.0.1, t.0, t.1)

-- ---- The box around a set

module _ {x y : List ℤ} {In : ℕ → Type 0} where
  pub around_unique : {b c : Box} → Around x y In b → Around x y In c → b ≡ c
  around_unique p q = shaped_unique p.shaped q.shaped p.smallest q.smallest

  pub around_holds : {b : Box} {t : ℕ} → Around x y In b → In t → Holds b (coordinate x t) (coordinate y t)
  around_holds p i = p.smallest.holds _ _ (record { node = _; member = i; place = (refl, refl) })

  -- it is the mark exactly where the set has no node
  pub around_none : {b : Box} → Around x y In b → ((t : ℕ) → ¬ In t) → b ≡ mark
  around_none p none = none-mark p.shaped p.smallest (λ px py s. none s.node s.member)

  pub around_mark : {b : Box} → Around x y In b → b ≡ mark → (t : ℕ) → ¬ In t
  around_mark p e t i = mark_empty e p.smallest _ _ (record { node = t; member = i; place = (refl, refl) })

-- it goes by the places of the set alone
pub around_same : {x y x' y' : List ℤ} {In In' : ℕ → Type 0} {b : Box}
    → ((px py : ℤ) → PlaceIn x y In px py → PlaceIn x' y' In' px py) → ((px py : ℤ) → PlaceIn x' y' In' px py → PlaceIn x y In px py)
    → Around x y In b → Around x' y' In' b
around_same f g p = record { smallest = smallest_same f g p.smallest; shaped = p.shaped }

-- ---- The updated box

module _ {N : Net} {x y : List ℤ} {e : ℕ} where
  pub updated_unique : {old b c : Box} → Updated N x y e old b → Updated N x y e old c → b ≡ c
  updated_unique {old} p q =
      shaped_unique p.shaped q.shaped p.smallest
      (subst (λ (z : Box). Smallest (λ px py. Holds old px py ⊎ Holds z px py) _) (around_unique q.is_tight p.is_tight) q.smallest)

  pub updated_holds : {old new : Box} {t : ℕ} → Updated N x y e old new → InS N e t → Holds new (coordinate x t) (coordinate y t)
  updated_holds p i = p.smallest.holds _ _ (inr (around_holds p.is_tight i))

  pub updated_encloses : {old new : Box} → Updated N x y e old new → Encloses new old
  updated_encloses p px py h = p.smallest.holds px py (inl h)
