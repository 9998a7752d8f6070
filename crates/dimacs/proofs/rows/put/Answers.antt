use Rattle.std.proofs.Common.{◌≡◌, length, arith}
use Rattle.std.proofs.Math.Seq.{take_all}
use Rattle.dimacs.proofs.RowLaws.{store}
use Rattle.dimacs.proofs.rows.put.Goals as goal

pub loop-i-preserved : goal.loop-i-preserved
loop-i-preserved g c = λ f h. rw (c.loop-i.invariant f h, h _ _ c.number.ensures) (store f _ c.args.lines.now c.args.row.now c.loop-i.i (omega arith) (omega arith))

pub returns : goal.returns
returns g c = λ f h.
    let all : c.loop-i.i ≡ length c.args.lines.now = omega arith in
    rw (c.loop-i.invariant f h, all, take_all (length c.args.lines.now) c.args.lines.now (omega arith))
