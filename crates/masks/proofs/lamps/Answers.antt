-- `masks::lamps` meets its contract.
use native.Mathlib.Omega.{arith}
use Rattle.masks.specs.Says.{too_short}
use Rattle.masks.proofs.Lighting.{lighting_place, lighting_within, lighting_next, lighting_over}
use Rattle.masks.proofs.lamps.Goals as goal

pub returns-then-row-lt32 : goal.returns-then-row-lt32
returns-then-row-lt32 c = too_short c.if-row-lt32.true

pub bounds-row-at : goal.bounds-row-at
bounds-row-at c = let l = c.loop-rest.invariant in omega (arith, lighting_place l c.loop-rest-test.true, l.room, l.same_length)

pub overflow_sub-rest : goal.overflow_sub-rest
overflow_sub-rest c = lighting_within c.loop-rest.invariant c.loop-rest-test.true

pub loop-rest-smaller : goal.loop-rest-smaller
loop-rest-smaller c = omega (arith, lighting_place c.loop-rest.invariant c.loop-rest-test.true)

pub loop-rest-preserved : goal.loop-rest-preserved
loop-rest-preserved c = lighting_next c.loop-rest.invariant c.loop-rest-test.true

pub returns : goal.returns
returns c = lighting_over c.loop-rest.invariant (omega arith) c.loop-rest-test.false
