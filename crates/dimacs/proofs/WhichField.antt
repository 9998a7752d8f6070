-- Request c: what is true of a line's fault.
use Prim.Native.Nat.{ℕ, ◌≤◌}
use mathlib.Core.Path.{◌≡◌, refl}
use mathlib.Core.Bool.{Bool, true, false, ◌&&◌, not, false≢true}
use mathlib.Core.List.{List, [], ◌∷◌}
use native.Mathlib.Omega.{arith}
use lib.Dec.{leb, ltb}
use lib.ListN.{length}
use Rattle.rules.specs.Judging.{in_turn, passes}
use Rattle.rules.specs.Paper.{tells_column, refusal, judged_reply}
use Rattle.rules.specs.declared.Refusal.TheVariants.{OutOfOrder, BeyondLimits, CountsDisagree, NodeAgain}
use Rattle.scan.specs.Ascii.{bytes}
use Rattle.scan.specs.Pieces.{first_at}
use Rattle.scan.specs.Faults.{HasFault}
use Rattle.scan.specs.Held.{held_line}
use Rattle.scan.specs.declared.fields.Kind.{Kind}
use Rattle.scan.specs.declared.fields.Kind.TheVariants.{EmptyLine, NoLetter, Misspelt, Missing, Extra}
use Rattle.scan.specs.declared.fields.Fault.{Fault}
use Rattle.scan.specs.declared.holding.Numbers.{Numbers}
use Rattle.scan.specs.declared.line.Line.{Line}
use Rattle.scan.specs.declared.line.Line.TheVariants.{Comment, Problem, Data}
use Rattle.scan.proofs.FaultLaws.{Forms, line-seen, formless_fault, fault_formless, seen-within}
use Rattle.dimacs.specs.Rules.{within}
use Rattle.dimacs.specs.Gr.{gr_problem, gr_arc, gr_line}
use Rattle.dimacs.specs.Co.{co_problem, co_node, co_line}
use Rattle.dimacs.specs.P2p.{p2p_problem, p2p_query, p2p_line}
use Rattle.dimacs.specs.Formats.{format_line}
use Rattle.dimacs.specs.Judgement.{numbers_of, is_seen, announced, problem_judged, again, data_judged, fault_at, judged}
use Rattle.dimacs.specs.WhichField.{FaultExactly, ToldExactly, FaultSeen, ColumnWithin}
use Rattle.dimacs.specs.declared.format.Format.{Format}
use Rattle.dimacs.specs.declared.format.Format.TheVariants.{Graph, Coordinates, Queries}
use Rattle.dimacs.specs.declared.format.Rules.{Rules}
use Rattle.dimacs.specs.declared.judge.Head.{Head}
use Rattle.std.specs.Prelude.{Result, Ok, Err}

-- the letters of each format
gr_forms : Forms gr_problem gr_arc
unfolding bytes first_at
gr_forms = record { problem_word = refl; rows-word = refl; problem_some = omega arith; rows_some = omega arith; apart = refl }

co_forms : Forms co_problem co_node
unfolding bytes first_at
co_forms = record { problem_word = refl; rows-word = refl; problem_some = omega arith; rows_some = omega arith; apart = refl }

p2p_forms : Forms p2p_problem p2p_query
unfolding bytes first_at
p2p_forms = record { problem_word = refl; rows-word = refl; problem_some = omega arith; rows_some = omega arith; apart = refl }

pub fault_exactly : (F : Format) (s : List ℕ) → FaultExactly F s
unfolding gr_line co_line p2p_line
fault_exactly Graph s = (λ h. fault_formless gr_problem gr_arc s gr_forms h.0 h.1, formless_fault gr_problem gr_arc s)
fault_exactly (Coordinates n) s = (λ h. fault_formless co_problem co_node s co_forms h.0 h.1, formless_fault co_problem co_node s)
fault_exactly (Queries n) s = (λ h. fault_formless p2p_problem p2p_query s p2p_forms h.0 h.1, formless_fault p2p_problem p2p_query s)

pub fault-seen : (F : Format) (s : List ℕ) → FaultSeen F s
unfolding gr_line co_line p2p_line
fault-seen Graph s f e = line-seen gr_problem gr_arc s f gr_forms e
fault-seen (Coordinates n) s f e = line-seen co_problem co_node s f co_forms e
fault-seen (Queries n) s f e = line-seen p2p_problem p2p_query s f p2p_forms e

pub column_within : (F : Format) (s : List ℕ) → ColumnWithin F s
column_within F s f e = seen-within s f (fault-seen F s f e)

-- ---- the numbers that are told

no_fault : {A : Type 0} → false ≡ true → A
no_fault e = absurd (false≢true e)

-- what a line with a form is refused as
module _ (R : Rules) (h : Head) (taken : List Bool) (k : ℕ) (ns : Numbers) where
  problem_other : tells_column (judged_reply (problem_judged R h k ns)).number ≡ true → ⊥
  unfolding problem_judged
  problem_other e = by_tests (not (is_seen h)) (within R.problem ns) (leb R.fewest (announced R ns) && leb (announced R ns) R.most) e
    where
      by_tests : (a b c : Bool) → tells_column (judged_reply (in_turn (passes a (OutOfOrder k) ∷ passes b (BeyondLimits k) ∷ passes c (CountsDisagree k) ∷ []))).number ≡ true → ⊥
      by_tests false b c e = no_fault e
      by_tests true false c e = no_fault e
      by_tests true true false e = no_fault e
      by_tests true true true e = no_fault e

  data_other : tells_column (judged_reply (data_judged R h taken k ns)).number ≡ true → ⊥
  unfolding data_judged
  data_other e = by_tests (is_seen h) (within R.entries ns) (not (again R taken ns.first)) (ltb h.count (announced R (numbers_of h))) e
    where
      by_tests : (a b c d : Bool) → tells_column (judged_reply (in_turn (passes a (OutOfOrder k) ∷ passes b (BeyondLimits k) ∷ passes c (NodeAgain k) ∷ passes d (CountsDisagree k) ∷ []))).number ≡ true → ⊥
      by_tests false b c d e = no_fault e
      by_tests true false c d e = no_fault e
      by_tests true true false d e = no_fault e
      by_tests true true true false e = no_fault e
      by_tests true true true true e = no_fault e

module _ (R : Rules) (h : Head) (taken : List Bool) (k : ℕ) where
  told-fault : (l : Result Line Fault) → tells_column (judged_reply (judged R h taken k l)).number ≡ true → HasFault l
  unfolding judged
  told-fault (Ok Comment) e = no_fault e
  told-fault (Ok (Problem ns)) e = absurd (problem_other R h taken k ns e)
  told-fault (Ok (Data ns)) e = absurd (data_other R h taken k ns e)
  told-fault (Err f) e = (f, refl)

  fault-told : (l : Result Line Fault) → HasFault l → tells_column (judged_reply (judged R h taken k l)).number ≡ true
  unfolding judged
  fault-told l (f, e) = rw e (by_kind f.kind)
    where
      by_kind : (i : Kind) → tells_column (refusal (fault_at k f.column i)).number ≡ true
      by_kind EmptyLine = refl
      by_kind NoLetter = refl
      by_kind Misspelt = refl
      by_kind Missing = refl
      by_kind Extra = refl

pub told_exactly : (F : Format) (s : List ℕ) → ToldExactly F s
told_exactly F s R h taken k =
    (λ t. (fault_exactly F s).0 (told-fault R h taken k (format_line F s) t), λ n. fault-told R h taken k (format_line F s) ((fault_exactly F s).1 n))

-- ---- a column fits into 32 bits

held_fault : (l : Result Line Fault) (f : Fault) → held_line l ≡ Err f → l ≡ Err f
unfolding held_line
held_fault (Ok Comment) f e = cc
held_fault (Ok (Problem ns)) f e = cc
held_fault (Ok (Data ns)) f e = cc
held_fault (Err x) f e = e

pub short_line : (F : Format) (s : List ℕ) (f : Fault) → length s ≤ 65536 → held_line (format_line F s) ≡ Err f → f.column ≤ 65537
short_line F s f few e = omega (arith, (column_within F s f (held_fault (format_line F s) f e)).1)
