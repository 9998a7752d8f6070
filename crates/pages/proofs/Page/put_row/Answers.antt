-- `pages::Page::put_row` meets its contract.
use mathlib.Core.Path.{sym, ◌∙◌}
use mathlib.Core.List.{append-nil}
use Prim.Native.Nat.{◌+◌}
use native.Mathlib.Nat.{mul-suc}
use native.Mathlib.Omega.{arith}
use Rattle.pages.specs.Spaced.{spaced}
use Rattle.pages.proofs.SpacedLaws.{spaced_next}
use Rattle.pages.proofs.Page.put_row.Goals as goal

pub loop-n-init : goal.loop-n-init
unfolding spaced
loop-n-init g c = record { puts = sym (append-nil c.args.self.now); upper_bound = omega arith }

pub loop-n-preserved : goal.loop-n-preserved
loop-n-preserved g c = record {
  puts = c.put_after.ensures.puts ∙ spaced_next g.T.Number.spelt _ _ _ _ c.loop-n-test.true c.n-item.is c.loop-n.invariant.puts;
  upper_bound = let m = mul-suc (1 + g.T.Number.most) c.loop-n.n-index in omega (arith, m);
}
