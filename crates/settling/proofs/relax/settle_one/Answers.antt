-- `settling::relax::settle_one` meets its contract.
use Prim.Native.Nat.{◌+◌, ◌≤◌}
use native.Mathlib.Omega.{arith}
use mathlib.Core.Path.{◌≡◌, refl, sym, ◌∙◌}
use lib.ListN.{get_or}
use Rattle.walks.specs.Judged.{rows_in}
use Rattle.frontier.specs.Chain.{From}
use Rattle.settling.specs.Labels.{marked}
use Rattle.passing.specs.Sieving.{keeps_by}
use Rattle.settling.proofs.SettleSteps.{relaxed_none, settle_all}
use Rattle.settling.proofs.TreeFollows.{front_marked}
use Rattle.settling.proofs.AlongChains.{relaxed_from, turn_shut, turn_open}
use Rattle.settling.proofs.relax.settle_one.Goals as goal
use Rattle.settling.proofs.relax.settle_one.Goals.{then-passes, else-passes}

pub loop-j-init : goal.loop-j-init
unfolding marked
loop-j-init c =
    let a = c.args in
    let T = a.task.tracks in
    let R = rows_in T in
    let K = keeps_by a.task.sieve T.closures.now in
    let low = c.requires.ready.low in
    let high : a.u ≤ 512 = omega (arith, c.requires.ready.high, T.sound.nodes_high) in
    let f = c.requires.chained.firsts a.u low high in (
      f.high,
      f.holds,
      record {
        same = sym (relaxed_from R K a.u _ _ _ f ∙ relaxed_none R K a.u _ _ _);
        front = front_marked c.requires.front a.u low high _ c.put.ensures refl;
      },
    )

pub loop-j-preserved : goal.loop-j-preserved
loop-j-preserved c =
    let a = c.args in
    let T = a.task.tracks in
    let R = rows_in T in
    let K = keeps_by a.task.sieve T.closures.now in
    let i = c.loop-j in
    let out = i.invariant.1 c.loop-j-test.true in
    let f : From T.m T.tails.now a.u (i.j + 1) (get_or a.chain.now.next i.j 0) = rw out at (c.requires.chained.nexts i.j c.loop-j-test.true) in
    let asked = c.passes.ensures in (
      f.high,
      f.holds,
      elim c.if-passes.branch [
        | then-passes w ↦ rw (w.labels-is, w.tree-is) (record { same = turn_open R K a.u _ _ _ i.j i.invariant.2.same f out asked w.if-passes.true w.offer.ensures.same; front = w.offer.ensures.front })
        | else-passes w ↦ rw (w.labels-is, w.tree-is) (record { same = turn_shut R K a.u _ _ _ i.j i.invariant.2.same f out asked w.if-passes.false; front = i.invariant.2.front })
      ],
    )

pub returns : goal.returns
returns c =
    let i = c.loop-j in
    let e : i.j ≡ c.args.task.tracks.m = omega arith in
    record { same = rw e at i.invariant.2.same ∙ sym (settle_all _ _ _ _ _); front = i.invariant.2.front }
