-- `lending::rows::clear_rows` meets its contract.
use Rattle.lending.proofs.rows.clear_rows.Goals as goal

pub returns : goal.returns
returns c =
    let counts = c.fill.ensures.after (λ y e. e) in
    let numbers = c.fill-2.ensures.after (λ y e. e) in
    let bytes = c.fill-3.ensures.after (λ y e. e) in
    rw (counts, numbers, bytes)
