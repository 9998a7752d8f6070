-- `reasons::explain::explain` meets its contract: each answer is the first reason that is true.
use native.Mathlib.Omega.{arith}
use mathlib.Core.Path.{sym, ◌∙◌}
use Rattle.reasons.specs.Steps.{is_among}
use Rattle.reasons.proofs.Telling.{told-closed, start-cut, end_cut, told_longer, told_tied, told_on_route}
use Rattle.reasons.proofs.explain.explain.Goals as goal

pub returns-then-tracks-at-ne0 : goal.returns-then-tracks-at-ne0
returns-then-tracks-at-ne0 c = told-closed c.requires.0 c.requires.1 c.if-tracks-at-ne0.true

pub returns-in_default : goal.returns-in_default
returns-in_default c = start-cut c.requires.0 c.requires.1 c.if-tracks-at-ne0.false c.in_default.ensures

pub returns-in_default-shortest : goal.returns-in_default-shortest
returns-in_default-shortest c = end_cut c.requires.0 c.requires.1 c.if-tracks-at-ne0.false (rw (c.turned.ensures.arcs, c.turned.ensures.turned) at c.in_default-shortest.ensures)

pub returns-then-best-through : goal.returns-then-best-through
returns-then-best-through c = told_longer c.requires.0 c.requires.1 c.if-tracks-at-ne0.false c.in-Some.ensures (rw (c.turned.ensures.arcs, c.turned.ensures.turned) at c.in-Some-shortest.ensures) c.if-best-through.true

pub returns-then-contains : goal.returns-then-contains
unfolding is_among
returns-then-contains c = told_on_route c.requires.0 c.requires.1 c.if-tracks-at-ne0.false c.in-Some.ensures (rw (c.turned.ensures.arcs, c.turned.ensures.turned) at c.in-Some-shortest.ensures) (sym c.contains.ensures.value ∙ c.if-contains.true)

pub returns : goal.returns
unfolding is_among
returns c = told_tied c.requires.0 c.requires.1 c.if-tracks-at-ne0.false c.in-Some.ensures (rw (c.turned.ensures.arcs, c.turned.ensures.turned) at c.in-Some-shortest.ensures) (omega (arith, c.if-best-through.false)) (sym c.contains.ensures.value ∙ c.if-contains.false)
