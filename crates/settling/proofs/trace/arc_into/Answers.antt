-- `settling::trace::arc_into` meets its contract.
use Prim.Native.Nat.{◌+◌}
use mathlib.Core.Path.{sym, ◌∙◌}
use lib.ListN.{get_or}
use Rattle.walks.specs.Judged.{rows_in}
use Rattle.frontier.specs.Chain.{From}
use Rattle.passing.specs.Sieving.{keeps_by}
use Rattle.settling.specs.Trace.{into_of}
use Rattle.settling.proofs.TraceSteps.{hit, miss, over, into_whole, arc_shut, arc_fits_lem}
use Rattle.settling.proofs.AlongChains.{rest_from}
use Rattle.settling.proofs.trace.arc_into.Goals as goal
use Rattle.settling.proofs.trace.arc_into.Goals.{then-passes+else-leads, else-passes}

pub loop-j-init : goal.loop-j-init
loop-j-init c =
    let a = c.args in
    let T = a.task.tracks in
    let R = rows_in T in
    let K = keeps_by a.task.sieve T.closures.now in
    let L = a.labels.now in
    let f = c.requires.2.firsts a.v c.requires.0 c.requires.1 in
    (rest_from R K L a.v (into_of R K L a.v T.m) f (into_whole R K L a.v T.m), f.high, f.holds)

pub returns-then-leads-clause-into : goal.returns-then-leads-clause-into
returns-then-leads-clause-into c =
    let a = c.args in
    let T = a.task.tracks in
    let R = rows_in T in
    let K = keeps_by a.task.sieve T.closures.now in
    let i = c.loop-j in
    hit _ _ _ i.j i.invariant.0 c.loop-j-test.true (arc_fits_lem R K a.labels.now a.v i.j (i.invariant.2 c.loop-j-test.true) (sym c.passes.ensures ∙ c.if-passes.true) (sym c.leads.ensures ∙ c.if-leads.true))

pub loop-j-preserved : goal.loop-j-preserved
loop-j-preserved c =
    let a = c.args in
    let T = a.task.tracks in
    let R = rows_in T in
    let K = keeps_by a.task.sieve T.closures.now in
    let L = a.labels.now in
    let whole = into_of R K L a.v T.m in
    let i = c.loop-j in
    let out = i.invariant.2 c.loop-j-test.true in
    let f : From T.m T.heads.now a.v (i.j + 1) (get_or a.chain.now.next i.j 0) = rw out at (c.requires.2.nexts i.j c.loop-j-test.true) in
    let asked = sym c.passes.ensures in (
      rest_from R K L a.v whole f (miss _ T.m whole i.j i.invariant.0 (elim c.if-passes.branch [
        | then-passes+else-leads w ↦ arc_fits_lem R K L a.v i.j out (asked ∙ w.if-passes.true) (sym w.leads.ensures ∙ w.if-leads.false)
        | else-passes w ↦ arc_shut R K L a.v i.j out (asked ∙ w.if-passes.false)
      ])),
      f.high,
      f.holds,
    )

pub returns-clause-into : goal.returns-clause-into
returns-clause-into c = let i = c.loop-j in over _ _ _ i.j i.invariant.0 i.invariant.1 c.loop-j-test.false
