-- `drawing::compare::find_miss` meets its contract. The loop's invariant: `miss` is the first among the nodes up to t.
use Rattle.walks.specs.Judged.{rows_in}
use Rattle.passing.specs.Lent.{signs_of}
use Rattle.drawing.specs.Missed.{misses_node, IsFirst}
use Rattle.drawing.proofs.MissedLaws.{Below}
use Rattle.drawing.proofs.compare.find_miss.Given as goal

abbrev pub invariant-loop-t : goal.invariant-loop-t
invariant-loop-t l =
    let m = l.tracks.m in
    IsFirst (misses_node (rows_in l.tracks) l.tracks.n m l.asked (signs_of l.signs)) l.t m l.miss × Below m l.miss l.below
