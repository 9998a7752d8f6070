-- Every format's rules are fair, and lines that are held alike are judged alike: reading goes by true values.
use mathlib.Core.Path.{◌≡◌, refl, ap, ◌∙◌}
use mathlib.Core.List.{List}
use mathlib.Core.Bool.{Bool, true, false, ◌&&◌, not}
use Prim.Native.Nat.{ℕ, ◌≤◌, ◌<◌, min}
use native.Mathlib.Omega.{arith}
use lib.Dec.{leb, ltb}
use lib.IntN.{ℤ, pos, negsuc}
use lib.Signed.{le_z}
use borrow.Author.Tests.{leb-true, leb-false, ltb-true, le-leb, lt-leb, not-true}
use Rattle.rules.proofs.AndLaws.{and_true}
use Rattle.rules.proofs.JudgingLaws.{both_fine, passed}
use Rattle.rules.specs.Judging.{or_else, passes}
use Rattle.rules.specs.declared.Refusal.TheVariants.{OutOfOrder, BeyondLimits, CountsDisagree, NodeAgain}
use Rattle.scan.specs.Held.{held, held_z, held_numbers, held_line}
use Rattle.scan.specs.declared.holding.Numbers.{Numbers}
use Rattle.scan.specs.declared.line.Line.{Line}
use Rattle.scan.specs.declared.line.Line.TheVariants.{Comment, Problem, Data}
use Rattle.dimacs.specs.Rules.{column_of, naturals, none_above, within}
use Rattle.dimacs.specs.Gr.{gr_rules}
use Rattle.dimacs.specs.Co.{co_rules}
use Rattle.dimacs.specs.P2p.{p2p_rules}
use Rattle.dimacs.specs.Formats.{rules_of}
use Rattle.dimacs.specs.Judgement.{numbers_of, is_seen, announced, again, problem_judged, data_judged, judged}
use Rattle.dimacs.specs.Fair.{Small, Modest, ModestLimits, Fair, FormatFair}
use Rattle.dimacs.specs.declared.rows.Column.{Column}
use Rattle.dimacs.specs.declared.rows.Column.TheVariants.{First, Second, Third}
use Rattle.dimacs.specs.declared.format.Limits.{Limits}
use Rattle.dimacs.specs.declared.format.Rules.{Rules}
use Rattle.dimacs.specs.declared.format.Format.{Format}
use Rattle.dimacs.specs.declared.format.Format.TheVariants.{Graph, Coordinates, Queries}
use Rattle.dimacs.specs.declared.judge.Head.{Head}
use Rattle.dimacs.proofs.Counting.{clash}
use Rattle.std.specs.Prelude.{Result, Ok, Err}
use Rattle.scan.specs.declared.fields.Fault.{Fault}

-- ---- every format's rules

-- each number of a line that may have so many
each_column : (a b c most : ℕ) → a ≤ most → b ≤ most → c ≤ most → (which : Column) → column_of which (naturals a b c) ≤ most
each_column a b c most h i j First = h
each_column a b c most h i j Second = i
each_column a b c most h i j Third = j

naturals_modest : (a b c : ℕ) → a < 10_000_000 → b < 10_000_000 → c < 10_000_000 → Modest (naturals a b c)
naturals_modest a b c h i j = record { first = h; second = i; third = j; x = omega arith; y = omega arith }

pub fair_of : (F : Format) → FormatFair F → (problem : Numbers) → problem.first ≤ 512 → Fair (rules_of F problem)
unfolding gr_rules co_rules p2p_rules
fair_of Graph f problem h =
    record {
      problem = record { least = naturals_modest 1 0 0 (omega arith) (omega arith) (omega arith); most = naturals_modest 512 2048 0 (omega arith) (omega arith) (omega arith) };
      entries = record {
        least = naturals_modest 1 1 0 (omega arith) (omega arith) (omega arith);
        most = naturals_modest problem.first problem.first 1_000_000 (omega arith) (omega arith) (omega arith);
      };
      nodes = omega arith;
      counts = each_column 512 2048 0 2048 (omega arith) (omega arith) (omega arith);
      low = λ e. absurd (clash e);
      high = λ e. absurd (clash e);
      all = λ e. absurd (clash e);
    }
fair_of (Coordinates n) f problem h =
    record {
      problem = record { least = naturals_modest 1 0 0 (omega arith) (omega arith) (omega arith); most = naturals_modest 512 0 0 (omega arith) (omega arith) (omega arith) };
      entries = record {
        least = record { first = omega arith; second = omega arith; third = omega arith; x = omega arith; y = omega arith };
        most = record { first = omega arith; second = omega arith; third = omega arith; x = omega arith; y = omega arith };
      };
      nodes = omega arith;
      counts = each_column 512 0 0 2048 (omega arith) (omega arith) (omega arith);
      low = λ e. omega arith;
      high = λ e. omega arith;
      all = λ e. omega arith;
    }
fair_of (Queries n) f problem h =
    record {
      problem = record { least = naturals_modest 0 0 0 (omega arith) (omega arith) (omega arith); most = naturals_modest 256 0 0 (omega arith) (omega arith) (omega arith) };
      entries = record { least = naturals_modest 1 1 0 (omega arith) (omega arith) (omega arith); most = naturals_modest n n 0 (omega arith) (omega arith) (omega arith) };
      nodes = omega arith;
      counts = each_column 256 0 0 2048 (omega arith) (omega arith) (omega arith);
      low = λ e. absurd (clash e);
      high = λ e. absurd (clash e);
      all = λ e. absurd (clash e);
    }

-- ---- within its limits

pub record NoneAbove (a b : Numbers) : Type 0 where
  pub first : a.first ≤ b.first
  pub second : a.second ≤ b.second
  pub third : a.third ≤ b.third
  pub x : le_z a.x b.x ≡ true
  pub y : le_z a.y b.y ≡ true

none_above_lem : (a b : Numbers) → none_above a b ≡ true → NoneAbove a b
none_above_lem a b e =
    let p = leb a.first b.first in
    let q = leb a.second b.second in
    let r = leb a.third b.third in
    let e4 = and_true (p && q && r && le_z a.x b.x) (le_z a.y b.y) e in
    let e3 = and_true (p && q && r) (le_z a.x b.x) e4.0 in
    let e2 = and_true (p && q) r e3.0 in
    let e1 = and_true p q e2.0 in
    record { first = leb-true _ _ e1.0; second = leb-true _ _ e1.1; third = leb-true _ _ e2.1; x = e3.1; y = e4.1 }

pub column_below : (a b : Numbers) → NoneAbove a b → (which : Column) → column_of which a ≤ column_of which b
column_below a b h First = h.first
column_below a b h Second = h.second
column_below a b h Third = h.third

-- what within says
pub record Inside (l : Limits) (ns : Numbers) : Type 0 where
  pub low : NoneAbove l.least ns
  pub high : NoneAbove ns l.most

pub inside : (l : Limits) (ns : Numbers) → within l ns ≡ true → Inside l ns
unfolding within
inside l ns e =
    let p = and_true (none_above l.least ns) (none_above ns l.most) e in
    record { low = none_above_lem l.least ns p.0; high = none_above_lem ns l.most p.1 }

pub once_in : (R : Rules) (ns : Numbers) → Fair R → within R.entries ns ≡ true → R.once ≡ true → (1 ≤ ns.first) × (ns.first ≤ 2048)
once_in R ns f e o =
    let i = inside R.entries ns e in
    (omega (arith, i.low.first, f.low o), omega (arith, i.high.first, f.high o))

-- ---- a test against a limit, of what is held

min_low : (c a v : ℕ) → a < c → leb a (min v c) ≡ leb a v
min_low c a v h = by_test (leb a v) refl
  where
    by_test : (z : Bool) → leb a v ≡ z → leb a (min v c) ≡ z
    by_test true e = le-leb a (min v c) (omega (arith, leb-true a v e))
    by_test false e = lt-leb a (min v c) (omega (arith, leb-false a v e))

min_high : (c b v : ℕ) → b < c → leb (min v c) b ≡ leb v b
min_high c b v h = by_test (leb v b) refl
  where
    by_test : (z : Bool) → leb v b ≡ z → leb (min v c) b ≡ z
    by_test true e = le-leb (min v c) b (omega (arith, leb-true v b e))
    by_test false e = lt-leb (min v c) b (omega (arith, leb-false v b e))

held_z_low : (a z : ℤ) → Small a → le_z a (held_z z) ≡ le_z a z
unfolding held_z
held_z_low (pos a) (pos v) h = min_low 10_000_000 a v (omega arith)
held_z_low (pos a) (negsuc v) h = refl
held_z_low (negsuc a) (pos v) h = refl
held_z_low (negsuc a) (negsuc v) h = min_high 9_999_999 a v (omega arith)

held_z_high : (b z : ℤ) → Small b → le_z (held_z z) b ≡ le_z z b
unfolding held_z
held_z_high (pos b) (pos v) h = min_high 10_000_000 b v (omega arith)
held_z_high (pos b) (negsuc v) h = refl
held_z_high (negsuc b) (pos v) h = refl
held_z_high (negsuc b) (negsuc v) h = min_low 9_999_999 b v (omega arith)

-- a number within limits is the number held
held_z_same : (a b z : ℤ) → Small a → Small b → le_z a z ≡ true → le_z z b ≡ true → held_z z ≡ z
unfolding held_z
held_z_same a (pos b) (pos v) h k p q = ap pos (omega (arith, leb-true v b q))
held_z_same a (negsuc b) (pos v) h k p q = absurd (clash q)
held_z_same (pos a) b (negsuc v) h k p q = absurd (clash p)
held_z_same (negsuc a) b (negsuc v) h k p q = ap negsuc (omega (arith, leb-true v a p))

module _ (l : Limits) (m : ModestLimits l) where
  within_held : (ns : Numbers) → within l (held_numbers ns) ≡ within l ns
  unfolding within held
  within_held ns =
      rw (
        min_low 10_000_000 l.least.first ns.first m.least.first,
        min_low 10_000_000 l.least.second ns.second m.least.second,
        min_low 10_000_000 l.least.third ns.third m.least.third,
        held_z_low l.least.x ns.x m.least.x,
        held_z_low l.least.y ns.y m.least.y,
        min_high 10_000_000 l.most.first ns.first m.most.first,
        min_high 10_000_000 l.most.second ns.second m.most.second,
        min_high 10_000_000 l.most.third ns.third m.most.third,
        held_z_high l.most.x ns.x m.most.x,
        held_z_high l.most.y ns.y m.most.y,
      )

  within_same : (ns : Numbers) → within l ns ≡ true → held_numbers ns ≡ ns
  unfolding held
  within_same ns e =
      let i = inside l ns e in
      let a : min ns.first 10_000_000 ≡ ns.first = omega (arith, i.high.first, m.most.first) in
      let b : min ns.second 10_000_000 ≡ ns.second = omega (arith, i.high.second, m.most.second) in
      let c : min ns.third 10_000_000 ≡ ns.third = omega (arith, i.high.third, m.most.third) in
      let x = held_z_same l.least.x l.most.x ns.x m.least.x m.most.x i.low.x i.high.x in
      let y = held_z_same l.least.y l.most.y ns.y m.least.y m.most.y i.low.y i.high.y in
      rw (a, b, c, x, y)

-- ---- what a judgement that is fine says

pub record ProblemFine (R : Rules) (h : Head) (ns : Numbers) : Type 0 where
  pub inside : within R.problem ns ≡ true
  pub agrees : leb R.fewest (announced R ns) && leb (announced R ns) R.most ≡ true
  pub unseen : not (is_seen h) ≡ true

pub problem_fine : (R : Rules) (h : Head) (k : ℕ) (ns : Numbers) → problem_judged R h k ns ≡ Ok tt → ProblemFine R h ns
unfolding problem_judged
problem_fine R h k ns e =
    let agreed = leb R.fewest (announced R ns) && leb (announced R ns) R.most in
    let d = both_fine (passes (not (is_seen h)) (OutOfOrder k)) (or_else (passes (within R.problem ns) (BeyondLimits k)) (or_else (passes agreed (CountsDisagree k)) (Ok tt))) e in
    let f = both_fine (passes (within R.problem ns) (BeyondLimits k)) (or_else (passes agreed (CountsDisagree k)) (Ok tt)) d.1 in
    let g = both_fine (passes agreed (CountsDisagree k)) (Ok tt) f.1 in
    record { inside = passed _ _ f.0; agrees = passed _ _ g.0; unseen = passed _ _ d.0 }

pub record DataFine (R : Rules) (h : Head) (taken : List Bool) (ns : Numbers) : Type 0 where
  pub seen : (is_seen h) ≡ true
  pub inside : within R.entries ns ≡ true
  pub first_time : again R taken ns.first ≡ false
  pub room : h.count < announced R (numbers_of h)

pub data_fine : (R : Rules) (h : Head) (taken : List Bool) (k : ℕ) (ns : Numbers) → data_judged R h taken k ns ≡ Ok tt → DataFine R h taken ns
unfolding data_judged
data_fine R h taken k ns e =
    let last = or_else (passes (ltb h.count (announced R (numbers_of h))) (CountsDisagree k)) (Ok tt) in
    let third = or_else (passes (not (again R taken ns.first)) (NodeAgain k)) last in
    let d = both_fine (passes (is_seen h) (OutOfOrder k)) (or_else (passes (within R.entries ns) (BeyondLimits k)) third) e in
    let f = both_fine (passes (within R.entries ns) (BeyondLimits k)) third d.1 in
    let g = both_fine (passes (not (again R taken ns.first)) (NodeAgain k)) last f.1 in
    let i = both_fine (passes (ltb h.count (announced R (numbers_of h))) (CountsDisagree k)) (Ok tt) g.1 in
    record {
      seen = passed _ _ d.0;
      inside = passed _ _ f.0;
      first_time = not-true _ (passed _ _ g.0);
      room = ltb-true _ _ (passed _ _ i.0);
    }

-- numbers beyond limits are judged alike
problem_beyond : (R : Rules) (h : Head) (k : ℕ) (a b : Numbers) → within R.problem a ≡ false → within R.problem b ≡ false → problem_judged R h k a ≡ problem_judged R h k b
unfolding problem_judged
problem_beyond R h k a b p q = rw (p, q)

data_beyond : (R : Rules) (h : Head) (taken : List Bool) (k : ℕ) (a b : Numbers) → within R.entries a ≡ false → within R.entries b ≡ false
    → data_judged R h taken k a ≡ data_judged R h taken k b
unfolding data_judged
data_beyond R h taken k a b p q = rw (p, q)

-- ---- the law that joins held numbers and true ones: a line is judged by what is held of it, and one that is fine is held as it is

module _ (R : Rules) (fair : Fair R) (h : Head) (taken : List Bool) (k : ℕ) where
  problem_held : (ns : Numbers) → problem_judged R h k (held_numbers ns) ≡ problem_judged R h k ns
  problem_held ns = by_test (within R.problem ns) refl
    where
      by_test : (z : Bool) → within R.problem ns ≡ z → problem_judged R h k (held_numbers ns) ≡ problem_judged R h k ns
      by_test true e = ap (problem_judged R h k) (within_same R.problem fair.problem ns e)
      by_test false e = problem_beyond R h k (held_numbers ns) ns (within_held R.problem fair.problem ns ∙ e) e

  data_held : (ns : Numbers) → data_judged R h taken k (held_numbers ns) ≡ data_judged R h taken k ns
  data_held ns = by_test (within R.entries ns) refl
    where
      by_test : (z : Bool) → within R.entries ns ≡ z → data_judged R h taken k (held_numbers ns) ≡ data_judged R h taken k ns
      by_test true e = ap (data_judged R h taken k) (within_same R.entries fair.entries ns e)
      by_test false e = data_beyond R h taken k (held_numbers ns) ns (within_held R.entries fair.entries ns ∙ e) e

  pub judged-held : (l : Result Line Fault) → judged R h taken k (held_line l) ≡ judged R h taken k l
  unfolding judged held_line
  judged-held (Ok Comment) = refl
  judged-held (Ok (Problem ns)) = problem_held ns
  judged-held (Ok (Data ns)) = data_held ns
  judged-held (Err f) = refl

  pub fine_held : (l : Result Line Fault) → judged R h taken k l ≡ Ok tt → held_line l ≡ l
  unfolding judged held_line
  fine_held (Ok Comment) e = refl
  fine_held (Ok (Problem ns)) e = ap (λ (n : Numbers). Ok (Problem n)) (within_same R.problem fair.problem ns (problem_fine R h k ns e).inside)
  fine_held (Ok (Data ns)) e = ap (λ (n : Numbers). Ok (Data n)) (within_same R.entries fair.entries ns (data_fine R h taken k ns e).inside)
  fine_held (Err f) e = refl
