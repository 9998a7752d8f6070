-- `u32::put_into` meets its contract.
use native.Mathlib.Omega.{arith}
use Rattle.scan.proofs.DecimalLaws.{decimal_long}
use Rattle.pages.proofs.numbers.U32Short.put_into.Goals as goal

pub put_digits-requires : goal.put_digits-requires
put_digits-requires c = let long = decimal_long 9 c.args.self (omega arith) in omega (arith, long)

pub returns-clause-upper_bound : goal.returns-clause-upper_bound
returns-clause-upper_bound c = (c.put_digits.ensures.upper_bound, decimal_long 9 _ (omega arith))
