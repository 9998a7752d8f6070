-- `writing::texts::put_places` meets its contract.
use Prim.Native.Nat.{◌+◌, ◌-◌}
use mathlib.Core.Path.{◌≡◌}
use native.Mathlib.Omega.{arith}
use lib.IntN.{pos}
use lib.ListN.{get_or}
use mir.Syntax.{w32}
use mir.Facts.{to_z-of_z}
use borrow.Author.Rules.{rules}
use Rattle.scan.specs.Written.{listed}
use Rattle.writing.specs.Text.{co_text}
use Rattle.writing.proofs.LinesLaws.{lines_room, lines_more}
use Rattle.writing.proofs.texts.put_places.Goals as goal

pub loop-i-init : goal.loop-i-init
unfolding listed
loop-i-init c = rw c.clear.ensures at c.put_places_line.ensures

pub put_node_line-requires : goal.put_node_line-requires
unfolding co_text
put_node_line-requires c = rw c.loop-i.invariant (lines_room _ _ _ c.args.n _ c.loop-i.auto.i-end c.requires.text_fits)

pub loop-i-preserved : goal.loop-i-preserved
loop-i-preserved c =
    let one : c.loop-i.i + 1 - 1 ≡ c.loop-i.i = omega arith in
    let px = to_z-of_z {w = w32} {z = get_or c.args.x.now c.loop-i.i (pos 0)} (search rules) in
    let py = to_z-of_z {w = w32} {z = get_or c.args.y.now c.loop-i.i (pos 0)} (search rules) in
    rw (lines_more, one) (rw c.loop-i.invariant at (rw (px, py) at c.put_node_line.ensures))

pub returns : goal.returns
unfolding co_text
returns c =
    let all : c.loop-i.i ≡ c.args.n = omega arith in
    rw all at c.loop-i.invariant
