-- The test at place i of the rows, counted from 0, is that of the number i + 1.
use Prim.Native.Nat.{ℕ, ◌+◌, ◌-◌, ◌*◌}
use mathlib.Core.Path.{◌≡◌, refl}
use mathlib.Core.Bool.{◌&&◌}
use lib.Dec.{leb}
use mathlib.Core.List.{List}
use native.Mathlib.Omega.{arith}
use lib.IntN.{ℤ}
use lib.ListN.{get_or}
use Rattle.geometry.specs.Box.{within_b, well_shaped_b}
use Rattle.geometry.specs.Row.{number, box_from}
use Rattle.walks.specs.Rows.{Rows, at}
use Rattle.judging.specs.Order.{good_arc, good_closure, good_place, good_module, good_box}

pub arc_next : (n : ℕ) (R : Rows) (i : ℕ)
    → good_arc n (get_or R.tails i 0) (get_or R.heads i 0) (get_or R.weights i 0)
    ≡ good_arc n (at R.tails (i + 1)) (at R.heads (i + 1)) (at R.weights (i + 1))
arc_next n R i = let same : i + 1 - 1 ≡ i = omega arith in rw same refl

pub closure_next : (row : List ℕ) (i : ℕ) → good_closure (get_or row i 0) ≡ good_closure (at row (i + 1))
closure_next row i = let same : i + 1 - 1 ≡ i = omega arith in rw same refl

pub place_next : (x y : List ℤ) (i : ℕ) → within_b (number x i) && within_b (number y i) ≡ good_place x y (i + 1)
place_next x y i = let same : i + 1 - 1 ≡ i = omega arith in rw same refl

pub box_next : (boxes : List ℤ) (i : ℕ) → well_shaped_b (box_from boxes (4 * i)) ≡ good_box boxes (i + 1)
box_next boxes i = let same : i + 1 - 1 ≡ i = omega arith in rw same refl

pub module-next : (modules : List ℕ) (i : ℕ) → leb 1 (get_or modules i 0) && leb (get_or modules i 0) 32 ≡ good_module modules (i + 1)
module-next modules i = let same : i + 1 - 1 ≡ i = omega arith in rw same refl
