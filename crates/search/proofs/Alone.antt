-- What is not asked may be lent or not: a search with boxes goes by coordinates and boxes alone, and a plain one by none.
use Prim.Native.Nat.{ℕ}
use mathlib.Core.List.{List}
use lib.IntN.{ℤ}
use Rattle.rules.specs.Paper.{Reply}
use Rattle.walks.specs.Rows.{Rows}
use Rattle.passing.specs.Signs.{Signs, signs, nothing, boxes_alone}
use Rattle.judging.specs.Order.{placed_by, shaped_by, searched_by, search_judged}
use Rattle.search.specs.Says.{SearchBy, SearchSays, BoxedSays}

module _ (n m : ℕ) (R : Rows) {s t : ℕ} {before after : List ℕ} {reply : Reply} where
  pub plain_says : (G : Signs) → SearchBy nothing n m R G s t before reply after → SearchSays n m R s t before reply after
  unfolding search_judged searched_by shaped_by placed_by
  plain_says G says = says

  pub boxed_says : (x y boxes : List ℤ) (modules masks : List ℕ) → SearchBy boxes_alone n m R (signs x y boxes modules masks) s t before reply after
      → BoxedSays n m R x y boxes s t before reply after
  unfolding search_judged searched_by shaped_by placed_by
  boxed_says x y boxes modules masks says = says
