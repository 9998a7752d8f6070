use Rattle.std.proofs.Common.{◌≡◌, ◌++◌, map, take, drop}
use Rattle.scan.specs.declared.holding.Numbers.{Numbers}
use Rattle.dimacs.proofs.rows.put.Given as goal

-- the numbers of i lines stand in front
abbrev pub invariant-loop-i : goal.invariant-loop-i
invariant-loop-i g l =
    (f : Numbers → g.row.T.Denot) → ((ns : Numbers) (v : g.row.T.Denot) → goal.F-post g l.number ns v → v ≡ f ns)
    → l.row ≡ map f (take l.i l.lines) ++ drop l.i l.initial.row
