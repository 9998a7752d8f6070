-- `pages::Page::put_number` meets its contract.
use Prim.Native.Nat.{ℕ}
use mathlib.Core.Path.{ap, ◌∙◌}
use mathlib.Core.List.{List, ◌++◌}
use native.Mathlib.Omega.{arith}
use Rattle.pages.proofs.FrontLaws.{put_front}
use Rattle.pages.proofs.Page.put_number.Goals as goal

pub returns-clause-puts : goal.returns-clause-puts
returns-clause-puts g c =
    let n = c.spell_into.ensures in
    put_front _ _ _ _ _ (omega arith) _ n.upper_bound.0 n.spelt ∙ ap (λ (t : List ℕ). t ++ g.T.Number.spelt c.args.n) c.self.view_is
