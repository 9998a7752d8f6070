-- `wording::put_words` meets its contract.
use Prim.Native.Nat.{ℕ}
use mathlib.Core.Path.{ap}
use native.Mathlib.Omega.{arith}
use lib.ListN.{length, length-append}
use Rattle.wording.proofs.PatternLaws.{words_told}
use Rattle.wording.proofs.put_words.Goals as goal

pub returns-clause-puts : goal.returns-clause-puts
returns-clause-puts c =
    words_told c.args.why _ _ c.place-first.ensures c.second_value-second.ensures c.pattern_of-pattern.ensures.pattern c.after_first-later.ensures c.after_first.ensures c.put_part.ensures.puts c.put_part-2.ensures.puts c.put.ensures

pub returns-clause-upper_bound : goal.returns-clause-upper_bound
returns-clause-upper_bound c =
    let later = ap (length {A = ℕ}) c.after_first-later.ensures in
    let last = ap (length {A = ℕ}) c.after_first.ensures in
    let put = ap (length {A = ℕ}) c.put.ensures in
    omega (arith, put, length-append {A = ℕ})
