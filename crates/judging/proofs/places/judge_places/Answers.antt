-- `judging::places::judge_places` meets its contract.
use Rattle.std.proofs.Common.{rules}
use Rattle.rules.specs.declared.Refusal.TheVariants.{BadCoordinate}
use Rattle.judging.specs.Order.{good_place}
use Rattle.judging.proofs.NextLaws.{place_next}
use Rattle.judging.proofs.places.judge_places.Goals as goal

pub returns : goal.returns
returns c =
    let a = c.args in
    c.judge_each.ensures (good_place a.x.now a.y.now) BadCoordinate (λ i b low told. rw (← place_next a.x.now a.y.now i) (search rules)) (λ number r told. search rules)
