-- `writing::texts::put_network` meets its contract.
use Prim.Native.Nat.{◌+◌, ◌-◌}
use mathlib.Core.Path.{◌≡◌}
use native.Mathlib.Omega.{arith}
use Rattle.scan.specs.Written.{listed}
use Rattle.writing.specs.Text.{gr_text}
use Rattle.writing.proofs.LinesLaws.{lines_room, lines_more}
use Rattle.writing.proofs.texts.put_network.Goals as goal

pub loop-i-init : goal.loop-i-init
unfolding listed
loop-i-init c = rw c.clear.ensures at c.put_graph_line.ensures

pub put_arc_line-requires : goal.put_arc_line-requires
unfolding gr_text
put_arc_line-requires c =
    rw c.loop-i.invariant (lines_room _ _ _ c.args.net.m _ c.loop-i.auto.i-end c.requires.text_fits)

pub loop-i-preserved : goal.loop-i-preserved
loop-i-preserved c =
    let one : c.loop-i.i + 1 - 1 ≡ c.loop-i.i = omega arith in
    rw (lines_more, one) (rw c.loop-i.invariant at c.put_arc_line.ensures)

pub returns : goal.returns
unfolding gr_text
returns c =
    let all : c.loop-i.i ≡ c.args.net.m = omega arith in
    rw all at c.loop-i.invariant
