-- `daylist::asking::answer_each` meets its contract: query after query is answered.
use Rattle.walks.specs.Judged.{rows_in}
use Rattle.daylist.proofs.Listing.{Going}
use Rattle.daylist.proofs.asking.answer_each.Given as goal

abbrev pub invariant-loop-i : goal.invariant-loop-i
invariant-loop-i l =
    Going l.tracks.n l.tracks.m (rows_in l.tracks) l.signs.nodes.x.now l.signs.nodes.y.now l.signs.boxes.now
    l.k l.sources l.targets l.initial.answers l.answers l.totals l.i
