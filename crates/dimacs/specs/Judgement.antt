-- The judgement of a line, in the paper's order: 3, 15, 16 and 17 for its form, then 4, 5, 7, 6.
use Rattle.std.specs.Prelude.{ℕ, ◌-◌, List, [], ◌∷◌, Bool, false, ◌&&◌, not, eqb, leb, ltb, get_or, is_some, unwrap_or, Result, Ok, Err}
use Rattle.rules.specs.Judging.{Judged, fine, in_turn, passes}
use Rattle.rules.specs.declared.Refusal.{Refusal}
use Rattle.rules.specs.declared.Refusal.TheVariants.{EmptyLine, OutOfOrder, BeyondLimits, CountsDisagree, NodeAgain, NoLetter, Misspelt, FieldCount}
use Rattle.scan.specs.Fields.{none}
use Rattle.scan.specs.declared.holding.Numbers.{Numbers}
use Rattle.scan.specs.declared.fields.Fault.{Fault}
use Rattle.scan.specs.declared.fields.Kind.{Kind}
use Rattle.scan.specs.declared.fields.Kind.TheVariants as kind
use Rattle.scan.specs.declared.line.Line.{Line}
use Rattle.scan.specs.declared.line.Line.TheVariants.{Comment, Problem, Data}
use Rattle.dimacs.specs.Rules.{column_of, within}
use Rattle.dimacs.specs.declared.format.Rules.{Rules}
use Rattle.dimacs.specs.declared.judge.Head.{Head}

-- whether the problem line was seen
abbrev pub is_seen : Head → Bool
is_seen h = is_some h.problem

-- the numbers of the problem line, or none before it
abbrev pub numbers_of : Head → Numbers
numbers_of h = unwrap_or h.problem none

-- how many data lines the problem line announces
abbrev pub announced : Rules → Numbers → ℕ
announced R problem = column_of R.count problem

-- a problem line, at line k: a second one is 4, limits are 5, counts that disagree 6
unfoldable pub problem_judged : Rules → Head → ℕ → Numbers → Judged
problem_judged R h k ns =
    in_turn (
    passes (not (is_seen h)) (OutOfOrder k)
    ∷ passes (within R.problem ns) (BeyondLimits k)
    ∷ passes (leb R.fewest (announced R ns) && leb (announced R ns) R.most) (CountsDisagree k)
    ∷ []
    )

-- whether a node had its line, in a format that has one for each node
abbrev pub again : Rules → List Bool → ℕ → Bool
again R taken node = R.once && get_or taken (node - 1) false

-- a data line, at line k: before the problem line it is 4, limits are 5, a node's second line 7, one line too many 6
unfoldable pub data_judged : Rules → Head → List Bool → ℕ → Numbers → Judged
data_judged R h taken k ns =
    in_turn (
    passes (is_seen h) (OutOfOrder k)
    ∷ passes (within R.entries ns) (BeyondLimits k)
    ∷ passes (not (again R taken ns.first)) (NodeAgain k)
    ∷ passes (ltb h.count (announced R (numbers_of h))) (CountsDisagree k)
    ∷ []
    )

-- a fault of line k at column c: an empty line is 3, a first field that is no permitted letter 15, a later field of the wrong
-- spelling 16, one that is missing or extra 17
abbrev pub fault_at : ℕ → ℕ → Kind → Refusal
fault_at k c kind.EmptyLine = EmptyLine k c
fault_at k c kind.NoLetter = NoLetter k c
fault_at k c kind.Misspelt = Misspelt k c
fault_at k c kind.Missing = FieldCount k c
fault_at k c kind.Extra = FieldCount k c

-- line k: the first fault of one without a form, or what its numbers are judged as
unfoldable pub judged : Rules → Head → List Bool → ℕ → Result Line Fault → Judged
judged R h taken k (Ok Comment) = fine
judged R h taken k (Ok (Problem ns)) = problem_judged R h k ns
judged R h taken k (Ok (Data ns)) = data_judged R h taken k ns
judged R h taken k (Err f) = Err (fault_at k f.column f.kind)

-- the end, where k is the number of lines plus one: 6 where `p` or data are lacking
unfoldable pub ended : Rules → Head → ℕ → Judged
ended R h k = passes (is_seen h && eqb h.count (announced R (numbers_of h))) (CountsDisagree k)
