-- `drawing::compare::find_miss` meets its contract.
use Rattle.std.proofs.Common.{◌+◌, refl}
use Rattle.walks.specs.Judged.{rows_in}
use Rattle.passing.specs.Lent.{signs_of}
use Rattle.settling.proofs.Widen.{heads_ends}
use Rattle.drawing.specs.Missed.{misses_node}
use Rattle.drawing.proofs.MissedLaws.{first_by_marks, miss_found, miss_stays}
use Rattle.drawing.proofs.compare.find_miss.Goals as goal
use Rattle.drawing.proofs.compare.find_miss.Goals.{in-Some, in_default}

pub link-chain-requires : goal.link-chain-requires
link-chain-requires c = heads_ends c.args.tracks.sound

pub loop-t-preserved : goal.loop-t-preserved
loop-t-preserved c =
    let a = c.args in
    let l = c.loop-t in
    let T = a.tracks in
    let R = rows_in T in
    let G = signs_of a.signs in
    let test = misses_node R T.n T.m a.asked G in
    let sieve = c.toward-sieve.ensures in
    let first = first_by_marks R T.n T.m a.asked G (l.t + 1) c.first_miss.result c.mark_toward.ensures sieve.tests sieve.boxes sieve.masks c.first_miss.ensures in
    elim c.match-first_miss.branch [
      | in-Some w ↦
          rw (w.below-is, w.miss-is) (miss_found test T.m l.t l.below l.miss l.invariant.0 l.invariant.1 (rw w.in-Some.is at first), refl)
      | in_default w ↦
          rw (w.below-is, w.miss-is) (miss_stays test T.m l.t l.below l.miss l.invariant.0 l.invariant.1 (rw w.in_default.is at first), l.invariant.1)
    ]
