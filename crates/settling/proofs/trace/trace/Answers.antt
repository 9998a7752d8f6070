-- `settling::trace::trace` meets its contract.
use Prim.Native.Nat.{◌+◌, ◌-◌}
use native.Mathlib.Omega.{arith}
use mathlib.Core.Path.{◌≡◌, sym, ◌∙◌}
use Rattle.settling.proofs.TraceSteps.{trace_over, trace_stuck, trace_on}
use Rattle.settling.proofs.Widen.{widened, heads_ends}
use Rattle.settling.proofs.trace.trace.Goals as goal

pub link-chain-requires : goal.link-chain-requires
link-chain-requires c = heads_ends c.args.task.tracks.sound

pub returns-in_default : goal.returns-in_default
returns-in_default c =
    let i = c.loop-k in
    let z : i.k - 1 + 1 ≡ i.k = omega (arith, c.loop-k-test.true) in
    sym (trace_stuck _ _ _ _ i.v i.route (i.k - 1) (sym c.arc_into.ensures.into ∙ c.in_default.is)) ∙ rw z i.invariant.2

pub loop-k-preserved : goal.loop-k-preserved
loop-k-preserved c =
    let i = c.loop-k in
    let h = c.in-Some.ensures.within in
    let z : i.k - 1 + 1 ≡ i.k = omega (arith, c.loop-k-test.true) in
    let s = (widened c.args.task.tracks.sound).arcs c.in-Some.e h.0 h.1 in
    (s.tail_low, s.tail_high, sym (trace_on _ _ _ _ i.v i.route (i.k - 1) c.in-Some.e (sym c.in-Some.ensures.into)) ∙ rw z i.invariant.2)

pub returns : goal.returns
returns c =
    let i = c.loop-k in
    let z : i.k ≡ 0 = omega arith in
    sym (trace_over _ _ _ _ _ _) ∙ rw z at i.invariant.2
