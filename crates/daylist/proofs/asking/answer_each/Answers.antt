-- `daylist::asking::answer_each` meets its contract: query after query is answered.
use mathlib.Core.Path.{refl}
use native.Mathlib.Omega.{arith}
use Rattle.settling.proofs.Widen.{tails_ends}
use Rattle.daylist.proofs.Listing.{going_start, going_on}
use Rattle.daylist.proofs.asking.answer_each.Goals as goal

pub link-chain-requires : goal.link-chain-requires
link-chain-requires c = tails_ends c.args.tracks.sound

pub loop-i-init : goal.loop-i-init
loop-i-init c = going_start _ _ _ _ _ _ _ _ _ _

pub loop-i-preserved : goal.loop-i-preserved
loop-i-preserved c =
    let room = c.requires.2 in
    let few = c.requires.1.queries in
    rw c.unwrap_or.ensures (going_on _ _ _ _ _ _ _ _ _ _ _ _ _ c.loop-i.invariant (omega arith) (omega arith) _ _ _ refl refl c.ask-answer.ensures _ c.with-totals.ensures)
