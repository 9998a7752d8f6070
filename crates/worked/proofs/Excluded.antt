-- Wrong programs that lines of the table exclude, since a function writes one thing only, and the line tells which.
use Prim.Native.Nat.{ℕ, zero, suc}
use mathlib.Core.Path.{◌≡◌, refl, sym, ap, ◌∙◌}
use mathlib.Core.Logic.{◌≢◌}
use mathlib.Core.List.{List, [], ◌∷◌}
use native.Mathlib.Omega.{arith}
use lib.IntN.{ℤ, pos, negsuc, nat_abs, pos-ne-negsuc}
use Rattle.rules.specs.Paper.{accepted}
use Rattle.geometry.specs.Box.{Box}
use Rattle.geometry.specs.Row.{box_of}
use Rattle.walks.specs.Rows.{Rows}
use Rattle.boxwork.specs.Says.{BuildSays, UpdateSays}
use Rattle.boxwork.proofs.TightLaws.{around_unique}
use Rattle.boxwork.proofs.SaysLaws.{update_unique}
use Rattle.boxwork.proofs.Accepting.{build_accepts}
use Rattle.worked.specs.Plans.{west, triangle, triangle_boxes, mended_boxes}
use Rattle.worked.specs.Table.{Case, Right, Each, no_line, line, table}
use Rattle.worked.proofs.TableRight.{table_right}

-- the statement of a table's line, counted from 0
abbrev Line : ℕ → List Case → Type 0
Line k [] = Unit {0}
Line zero (c ∷ cs) = Right c
Line (suc k) (c ∷ cs) = Line k cs

line_of : (k : ℕ) {cs : List Case} → Each Right cs → Line k cs
line_of zero no_line = tt
line_of (suc k) no_line = tt
line_of zero (line r more) = r
line_of (suc k) (line r more) = line_of k more

-- An update that mends only the changed arc's box, whatever it makes of that one: when the triangle's arc 3 grows heavier, arc 1's
-- box must grow.
pub not_only_its_own : {rows : Rows} {after : List ℤ}
    → UpdateSays triangle.nodes triangle.arcs triangle.rows triangle.x triangle.y triangle_boxes 3 5 0 (accepted []) rows after
    → ((e : ℕ) → e ≢ 3 → box_of after e ≡ box_of triangle_boxes e) → ⊥
unfolding table triangle_boxes mended_boxes
not_only_its_own u others =
    let row = (update_unique (line_of 20 table_right) u).2 in
    let same = ap (λ (r : List ℤ). box_of r 1) row ∙ others 1 (λ q. omega arith) in
    let high : ◌≡◌ {A = ℕ} 10 0 = ap (λ (b : Box). nat_abs b.high) same in
    omega arith

-- Learners' error 2: a build that starts its boxes at 0, 0 and grows them.
pub not_from_the_origin : {before : List ℤ}
    → BuildSays west.nodes west.arcs west.rows west.x west.y before (accepted []) (negsuc 19 ∷ pos 0 ∷ negsuc 4 ∷ pos 0 ∷ [])
    → ⊥
unfolding table west
not_from_the_origin b =
    let right = ((build_accepts (line_of 25 table_right) refl).1.drawn refl).entries 1 (omega arith) (omega arith) in
    let wrong = ((build_accepts b refl).1.drawn refl).entries 1 (omega arith) (omega arith) in
    pos-ne-negsuc 0 19 (sym (ap (λ (c : Box). c.right) (around_unique right wrong)))
