use Rattle.std.proofs.Common.{◌≡◌, ◌≤◌, drop}
use Rattle.scan.specs.Numbers.{value_from}
use Rattle.scan.specs.Held.{held_natural}
use Rattle.scan.proofs.numbers.read_digits.Given as goal

-- v holds the digits up to here
abbrev pub invariant-loop-b : goal.invariant-loop-b
invariant-loop-b l = (l.v ≤ 10000000000) × (held_natural (value_from 0 l.s) ≡ held_natural (value_from l.v (drop l.b-index l.s)))
