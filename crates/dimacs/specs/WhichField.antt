-- Request c: a line's fault is told with its kind and its column, and nothing is refused that has a form. `format_line` and `judged` are
-- what the readers' promises are made of, so these are about what the readers reply. Each is proved, under the name that stands with
-- it, in proofs/WhichField.antt.
use Rattle.std.specs.Prelude.{ℕ, ◌+◌, ◌≤◌, ◌≡◌, ◌↔◌, Bool, true, List, length, Err}
use Rattle.rules.specs.Paper.{tells_column, judged_reply}
use Rattle.scan.specs.Faults.{HasForm, HasFault, SeenAt}
use Rattle.scan.specs.declared.fields.Fault.{Fault}
use Rattle.dimacs.specs.Gr.{gr_problem, gr_arc}
use Rattle.dimacs.specs.Co.{co_problem, co_node}
use Rattle.dimacs.specs.P2p.{p2p_problem, p2p_query}
use Rattle.dimacs.specs.Formats.{format_line}
use Rattle.dimacs.specs.Judgement.{judged}
use Rattle.dimacs.specs.declared.format.Format.{Format}
use Rattle.dimacs.specs.declared.format.Format.TheVariants.{Graph, Coordinates, Queries}
use Rattle.dimacs.specs.declared.format.Rules.{Rules}
use Rattle.dimacs.specs.declared.judge.Head.{Head}

-- a line has a form of its kind of file
abbrev pub Formed : Format → List ℕ → Type 0
Formed Graph s = HasForm gr_problem gr_arc s
Formed (Coordinates n) s = HasForm co_problem co_node s
Formed (Queries n) s = HasForm p2p_problem p2p_query s

module _ (F : Format) (s : List ℕ) where
  -- 1. A line has a fault exactly where it has no form of its kind of file. `fault_exactly`
  abbrev pub FaultExactly : Type 0
  FaultExactly = HasFault (format_line F s) ↔ (Formed F s → ⊥)

  -- 2. So 3, 15, 16 and 17 are told exactly of lines without a form, whatever stood before them. `told_exactly`
  abbrev pub ToldExactly : Type 0
  ToldExactly = (R : Rules) (h : Head) (taken : List Bool) (k : ℕ) → (tells_column (judged_reply (judged R h taken k (format_line F s))).number ≡ true) ↔ (Formed F s → ⊥)

  -- 3. The fault of an empty line, and of a first field, is seen at column 1; that of a later field where the field begins; that of a
  -- missing one after the line's last byte. `fault-seen`
  abbrev pub FaultSeen : Type 0
  FaultSeen = (f : Fault) → format_line F s ≡ Err f → SeenAt s f.kind f.column

  -- 4. The column is from 1 to the line's length plus one. `column_within`
  abbrev pub ColumnWithin : Type 0
  ColumnWithin = (f : Fault) → format_line F s ≡ Err f → (1 ≤ f.column) × (f.column ≤ length s + 1)
