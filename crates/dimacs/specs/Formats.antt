-- The formats. A further one adds its forms and its rules here.
use Rattle.std.specs.Prelude.{ℕ, List, Result}
use Rattle.scan.specs.declared.fields.Fault.{Fault}
use Rattle.scan.specs.declared.line.Line.{Line}
use Rattle.scan.specs.declared.holding.Numbers.{Numbers}
use Rattle.dimacs.specs.Gr.{gr_line, gr_rules}
use Rattle.dimacs.specs.Co.{co_line, co_rules}
use Rattle.dimacs.specs.P2p.{p2p_line, p2p_rules}
use Rattle.dimacs.specs.declared.format.Format.{Format}
use Rattle.dimacs.specs.declared.format.Format.TheVariants.{Graph, Coordinates, Queries}
use Rattle.dimacs.specs.declared.format.Rules.{Rules}

-- what a line is
abbrev pub format_line : Format → List ℕ → Result Line Fault
format_line Graph s = gr_line s
format_line (Coordinates n) s = co_line s
format_line (Queries n) s = p2p_line s

-- the rules after the problem line
abbrev pub rules_of : Format → Numbers → Rules
rules_of Graph problem = gr_rules problem.first
rules_of (Coordinates n) problem = co_rules n
rules_of (Queries n) problem = p2p_rules n
