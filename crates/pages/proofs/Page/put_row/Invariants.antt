-- `pages::Page::put_row` meets its contract.
use Rattle.std.proofs.Common.{◌+◌, ◌*◌, ◌≤◌, length, take}
use Rattle.pages.specs.Page.{Puts}
use Rattle.pages.specs.Spaced.{spaced}
use Rattle.pages.proofs.Page.put_row.Given as goal

abbrev pub invariant-loop-n : goal.invariant-loop-n
invariant-loop-n g l = record {
  puts : Puts (spaced g.T.Number.spelt (take l.n-index l.row)) l.initial.self l.self;
  upper_bound : length l.self ≤ length l.initial.self + (1 + g.T.Number.most) * l.n-index;
}
