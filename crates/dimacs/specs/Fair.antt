-- What holds of every format's rules and lines, as the proofs need it. No public statement cites this.
use Rattle.std.specs.Prelude.{◌≤◌, ◌<◌, ◌≡◌, true, ℤ, pos, negsuc}
use Rattle.scan.specs.declared.holding.Numbers.{Numbers}
use Rattle.dimacs.specs.Rules.{column_of}
use Rattle.dimacs.specs.declared.rows.Column.{Column}
use Rattle.dimacs.specs.declared.format.Limits.{Limits}
use Rattle.dimacs.specs.declared.format.Rules.{Rules}
use Rattle.dimacs.specs.declared.format.Format.{Format}
use Rattle.dimacs.specs.declared.format.Format.TheVariants.{Graph, Coordinates, Queries}

abbrev pub Small : ℤ → Type 0
Small (pos v) = v < 9_999_999
Small (negsuc v) = v < 9_999_999

-- below what is held
pub record Modest (ns : Numbers) : Type 0 where
  pub first : ns.first < 10_000_000
  pub second : ns.second < 10_000_000
  pub third : ns.third < 10_000_000
  pub x : Small ns.x
  pub y : Small ns.y

pub record ModestLimits (l : Limits) : Type 0 where
  pub least : Modest l.least
  pub most : Modest l.most

pub record Fair (R : Rules) : Type 0 where
  pub problem : ModestLimits R.problem
  pub entries : ModestLimits R.entries
  pub nodes : R.problem.most.first ≤ 512
  pub counts : (c : Column) → column_of c R.problem.most ≤ 2048
  pub low : R.once ≡ true → 1 ≤ R.entries.least.first
  pub high : R.once ≡ true → R.entries.most.first ≤ 2048
  pub all : R.once ≡ true → R.entries.most.first ≤ R.fewest

-- a graph that has at most 512 nodes
abbrev pub FormatFair : Format → Type 0
FormatFair Graph = Unit
FormatFair (Coordinates n) = n ≤ 512
FormatFair (Queries n) = n ≤ 512
