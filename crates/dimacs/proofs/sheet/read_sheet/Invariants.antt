use Rattle.scan.specs.Left.{pieces_left}
use Rattle.dimacs.proofs.Reading.{Going, state}
use Rattle.dimacs.proofs.sheet.read_sheet.Given as goal

abbrev pub invariant-loop-s : goal.invariant-loop-s
invariant-loop-s l = Going l.fn.format l.text (state l.head l.taken l.lines) (pieces_left l.s-iterator) l.line
