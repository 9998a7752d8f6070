-- What the readers promise: the paper's reply, and the contents of each lent row as it is left.
use Rattle.std.specs.Prelude.{ℕ, ◌≡◌, List, ℤ, Result}
use Rattle.dimacs.specs.Rules.{column_of}
use Rattle.dimacs.specs.Rows.{row, open_row}
use Rattle.dimacs.specs.Reading.{gr_reply, co_reply, p2p_reply, read_gr, gr_says, read_co, co_says, read_p2p, p2p_says}
use Rattle.rules.specs.Judging.{Judged}
use Rattle.rules.specs.declared.Refusal.{Refusal}
use Rattle.rules.specs.declared.Sizes.{Sizes}
use Rattle.dimacs.specs.declared.rows.Column.TheVariants.{First, Second, Third}

-- `read_gr` replied r and left the rows as tails', heads', weights' and closures'
pub record GrPromise (text tails heads weights closures : List ℕ) (r : Result Sizes Refusal) (tails' heads' weights' closures' : List ℕ) : Type 0 where
  pub reply : gr_reply r ≡ gr_says (read_gr text tails heads weights closures)
  pub tails_left : tails' ≡ row (column_of First) (read_gr text tails heads weights closures) tails
  pub heads_left : heads' ≡ row (column_of Second) (read_gr text tails heads weights closures) heads
  pub weights_left : weights' ≡ row (column_of Third) (read_gr text tails heads weights closures) weights
  pub closures_left : closures' ≡ open_row (read_gr text tails heads weights closures) closures

-- `read_co` replied r and left the rows as x' and y'
pub record CoPromise (text : List ℕ) (n : ℕ) (x y : List ℤ) (r : Judged) (x' y' : List ℤ) : Type 0 where
  pub reply : co_reply r ≡ co_says (read_co text n x y)
  pub x_left : x' ≡ row (λ ns. ns.x) (read_co text n x y) x
  pub y_left : y' ≡ row (λ ns. ns.y) (read_co text n x y) y

-- `read_p2p` replied r and left the rows as sources' and targets'
pub record P2pPromise (text : List ℕ) (n : ℕ) (answers sources targets : List ℕ) (r : Result ℕ Refusal) (sources' targets' : List ℕ) : Type 0 where
  pub reply : p2p_reply r ≡ p2p_says (read_p2p text n answers)
  pub sources_left : sources' ≡ row (column_of First) (read_p2p text n answers) sources
  pub targets_left : targets' ≡ row (column_of Second) (read_p2p text n answers) targets
