use Rattle.std.proofs.Common.{◌≡◌, ◌∙◌, sym, ap, Some, get_or, arith}
use Rattle.std.proofs.lemmas.Int.{ints}
use Rattle.std.proofs.lemmas.Bool.Decides.{nat_tests}
use Rattle.scan.specs.Numbers.{negated}
use Rattle.scan.proofs.PieceLaws.{none_first}
use Rattle.scan.proofs.NumberLaws.{held_most, integer_plain, integer_minus, minus_is}
use Rattle.scan.proofs.numbers.read_integer.Goals as goal
use Rattle.scan.proofs.numbers.read_integer.Goals.{in_default-via-then-s-lt1, in_default-via-else-s-lt1+in_default-1}

pub returns-in_err-read_natural : goal.returns-in_err-read_natural
returns-in_err-read_natural c =
    let no_minus : get_or c.args.s.now 0 0 ≡ 45 → ⊥ =
    λ e. elim c.in_default.branch [ in_default-via-then-s-lt1 w ↦ grind (arith, nat_tests, none_first) | in_default-via-else-s-lt1+in_default-1 w ↦ omega arith ] in
    rw (c.from_residual.ensures, integer_plain c.args.s.now no_minus, ← c.read_natural.ensures, c.in_err-read_natural.was)

pub overflow_cast-result : goal.overflow_cast-result
overflow_cast-result c = let most = held_most _ _ (sym c.read_natural.ensures ∙ c.in_ok-read_natural.was) in omega (arith, ints)

pub returns-in_default : goal.returns-in_default
returns-in_default c =
    let no_minus : get_or c.args.s.now 0 0 ≡ 45 → ⊥ =
    λ e. elim c.in_default.branch [ in_default-via-then-s-lt1 w ↦ grind (arith, nat_tests, none_first) | in_default-via-else-s-lt1+in_default-1 w ↦ omega arith ] in
    let most = held_most _ _ (sym c.read_natural.ensures ∙ c.in_ok-read_natural.was) in
    rw (integer_plain c.args.s.now no_minus, ← c.read_natural.ensures, c.in_ok-read_natural.was) (ap Some (omega (arith, ints)))

pub returns-in_err-v : goal.returns-in_err-v
unfolding negated
returns-in_err-v c = rw (c.from_residual-in_err-v.ensures, integer_minus c.args.s.now (omega arith), ← c.read_natural-2.ensures, c.in_err-v.was)

pub overflow_cast-v : goal.overflow_cast-v
overflow_cast-v c = let most = held_most _ _ (sym c.read_natural-2.ensures ∙ c.in_ok-v.was) in omega (arith, ints)

pub overflow_sub-v : goal.overflow_sub-v
overflow_sub-v c = let most = held_most _ _ (sym c.read_natural-2.ensures ∙ c.in_ok-v.was) in omega (arith, ints)

pub returns : goal.returns
returns c =
    let most = held_most _ _ (sym c.read_natural-2.ensures ∙ c.in_ok-v.was) in
    rw (integer_minus c.args.s.now (omega arith), ← c.read_natural-2.ensures, c.in_ok-v.was) (c.then_some.ensures ∙ minus_is _ most)
