use Rattle.std.proofs.Common.{ℕ, List, [], ◌≡◌, refl, Bor, Option, Some, None, option_map, unwrap_or}
use Rattle.std.proofs.lemmas.Option.{unwrap_or-slice_get}
use Rattle.std.proofs.lemmas.Iterator.Consumers.{nth_from_yields_List, YieldsList-from_first}
use Rattle.scan.specs.Pieces.{pieces}
use Rattle.scan.specs.Left.{pieces_left}
use Rattle.scan.proofs.PieceLaws.{piece_short}
use Rattle.scan.proofs.pieces.piece_at.Goals as goal

now_or : (r : Option (Bor (List ℕ))) (x : Bor (List ℕ)) → (unwrap_or r x).now ≡ unwrap_or (option_map (λ y. y.now) r) x.now
now_or (Some y) x = refl
now_or None x = refl

pub returns-clause-result_value : goal.returns-clause-result_value
returns-clause-result_value c =
    let found = nth_from_yields_List c.nth.result c.nth.new.self c.args.place c.nth.ensures.ran (YieldsList-from_first (λ y. y.now) pieces_left _ c.pieces_of.ensures) in
    rw (c.unwrap_or.ensures, now_or c.nth.result _, found) (unwrap_or-slice_get (pieces c.args.sep [] c.args.s.now) c.args.place [])

pub returns-clause-result_in_bounds : goal.returns-clause-result_in_bounds
returns-clause-result_in_bounds c = rw (returns-clause-result_value c) (piece_short c.args.sep c.args.s.now c.args.place)
