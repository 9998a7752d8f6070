-- `drawing::gather::add_place` meets its contract.
use Rattle.std.proofs.Common.{rules, arith, ◌≡◌, ◌+◌, ◌∙◌}
use Rattle.geometry.specs.Row.{box_of, with_box}
use Rattle.drawing.specs.Drawn.{mark_of}
use Rattle.drawing.specs.Gathered.{add_place}
use Rattle.drawing.proofs.DrawnLaws.{puts_box}
use Rattle.drawing.proofs.Steps.{mark-next, add_turn, skip_turn}
use Rattle.drawing.proofs.gather.add_place.Goals as goal
use Rattle.drawing.proofs.gather.add_place.Goals.{then-marked-e, else-marked-e}

pub loop-e-preserved : goal.loop-e-preserved
loop-e-preserved c =
    let a = c.args in
    let l = c.loop-e in
    let room = c.requires.2 c.if-not-asked.false in
    let marked = mark_of a.marked.now in
    elim c.if-marked-e.branch [
      | then-marked-e w ↦
          let grown : w.grow_box.new.boxes ≡ with_box l.boxes (l.e + 1) (add_place a.nodes.x.now a.nodes.y.now a.t (box_of l.boxes (l.e + 1))) = search rules in
          add_turn puts_box marked _ l.invariant (mark-next a.marked.now l.e w.if-marked-e.true) (omega (arith, room.2)) (w.boxes-is ∙ grown)
      | else-marked-e w ↦ skip_turn puts_box marked _ l.invariant (mark-next a.marked.now l.e w.if-marked-e.false) w.boxes-is
    ]
