use Rattle.std.proofs.Common.{rules, tests, ◌≡◌, ◌∙◌, eqb, unwrap_or, length, ap}
use Rattle.std.specs.List.{position}
use Rattle.std.proofs.lemmas.Iterator.{YieldsList-from_slice}
use Rattle.std.proofs.lemmas.Iterator.Search.{position_from_yields_List}
use Rattle.scan.proofs.PieceLaws.{first_position, first_le}
use Rattle.scan.proofs.pieces.first_at.Goals as goal

pub returns : goal.returns
returns c =
    let found : c.position.result ≡ position (λ b. eqb b c.args.sep) c.args.s.now =
    position_from_yields_List _ _ _ _ c.position.ensures.ran (YieldsList-from_slice c.args.s.now cc) (λ x b q k. search (rules, tests)) in
    let is = c.unwrap_or.ensures ∙ (ap (λ r. unwrap_or r (length c.args.s.now)) found ∙ first_position c.args.sep c.args.s.now) in
    (is, rw is (first_le c.args.sep c.args.s.now))
