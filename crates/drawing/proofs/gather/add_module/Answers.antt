-- `drawing::gather::add_module` meets its contract.
use Prim.Native.Nat.{ℕ, ◌+◌, ◌-◌}
use mathlib.Core.Path.{◌≡◌}
use mathlib.Core.List.{List}
use native.Mathlib.Omega.{arith}
use lib.ListN.{get_or, set}
use Rattle.masks.specs.Mask.{lighted}
use Rattle.walks.specs.Rows.{at}
use Rattle.drawing.specs.Drawn.{mark_of}
use Rattle.drawing.proofs.DrawnLaws.{puts_single}
use Rattle.drawing.proofs.Steps.{mark-next, add_turn, skip_turn}
use Rattle.drawing.proofs.gather.add_module.Goals as goal
use Rattle.drawing.proofs.gather.add_module.Goals.{then-marked-e, else-marked-e}

-- the mask at place e is that of the arc e + 1
put_next : (row after : List ℕ) (e j : ℕ) {mask : ℕ} → mask ≡ lighted (get_or row e 0) j → after ≡ set row e mask
    → after ≡ set row (e + 1 - 1) (lighted (get_or row (e + 1 - 1) 0) j)
put_next row after e j told made = let back : e + 1 - 1 ≡ e = omega arith in rw (back, ← told) made

pub loop-e-preserved : goal.loop-e-preserved
loop-e-preserved c =
    let a = c.args in
    let l = c.loop-e in
    let room = c.requires.2 c.if-not-asked.false in
    let marked = mark_of a.marked.now in
    elim c.if-marked-e.branch [
      | then-marked-e w ↦
          let made = put_next l.masks _ l.e (at a.nodes.modules.now a.t) w.with_module.ensures w.masks-is in
          add_turn (puts_single 0) marked _ l.invariant (mark-next a.marked.now l.e w.if-marked-e.true) (omega (arith, room.1)) made
      | else-marked-e w ↦ skip_turn (puts_single 0) marked _ l.invariant (mark-next a.marked.now l.e w.if-marked-e.false) w.masks-is
    ]
