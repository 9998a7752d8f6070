-- `settling::settle::settle` meets its contract.
use native.Mathlib.Omega.{arith}
use mathlib.Core.Path.{sym, ◌∙◌}
use Rattle.settling.proofs.StepByStep.{stands_stuck, stands_ready, stands_below, stands_found, stands_on}
use Rattle.settling.proofs.settle.settle.Goals as goal

pub returns-then-u-task : goal.returns-then-u-task
returns-then-u-task c = stands_found c.loop-u.invariant c.in-Some.ensures c.if-u-task.true

pub settle_one-requires-clause-ready : goal.settle_one-requires-clause-ready
settle_one-requires-clause-ready c = stands_ready c.loop-u.invariant c.in-Some.ensures

pub loop-u-smaller : goal.loop-u-smaller
loop-u-smaller c = omega (arith, stands_below c.loop-u.invariant c.in-Some.ensures)

pub loop-u-preserved : goal.loop-u-preserved
loop-u-preserved c = stands_on c.loop-u.invariant c.in-Some.ensures c.if-u-task.false c.settle_one.ensures

pub returns : goal.returns
returns c = stands_stuck c.loop-u.invariant (sym c.in_default.is ∙ c.nearest.ensures)
