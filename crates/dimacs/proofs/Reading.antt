-- Laws of reading a text line by line, for any format.
use mathlib.Core.Path.{◌≡◌, refl, sym, ap, ◌∙◌}
use mathlib.Core.List.{List, [], ◌∷◌}
use mathlib.Core.Bool.{Bool, true, false, cond}
use Prim.Native.Nat.{ℕ, suc, ◌+◌, ◌-◌, ◌≤◌, ◌<◌}
use native.Mathlib.Nat.{le_trans}
use native.Mathlib.Omega.{arith}
use lib.ListN.{length, get_or, take, set, replicate}
use Rattle.rules.specs.declared.Refusal.{Refusal}
use Rattle.rules.specs.Judging.{Judged}
use Rattle.scan.specs.Pieces.{lines_of}
use Rattle.scan.specs.Fields.{none}
use Rattle.scan.specs.Held.{held_line}
use Rattle.scan.specs.declared.holding.Numbers.{Numbers}
use Rattle.scan.specs.declared.line.Line.{Line}
use Rattle.scan.specs.declared.line.Line.TheVariants.{Comment, Problem, Data}
use Rattle.scan.proofs.PieceLaws.{pieces_few, piece_short}
use Rattle.dimacs.specs.Rules.{column_of}
use Rattle.dimacs.specs.Formats.{format_line, rules_of}
use Rattle.dimacs.specs.Judgement.{numbers_of, announced, problem_judged, data_judged, fault_at, judged, ended}
use Rattle.dimacs.specs.Texts.{read, refused, State, place, next, on_judged, read_lines, read_text}
use Rattle.dimacs.specs.Fair.{Fair, FormatFair}
use Rattle.dimacs.specs.declared.rows.Column.{Column}
use Rattle.dimacs.specs.declared.format.Rules.{Rules}
use Rattle.dimacs.specs.declared.format.Format.{Format}
use Rattle.dimacs.specs.declared.judge.Head.{Head}
use Rattle.dimacs.proofs.Sound.{none-counted}
use Rattle.dimacs.proofs.Fairness.{fair_of, column_below, inside, once_in, judged-held, fine_held, problem_fine, DataFine, data_fine}
use Rattle.std.specs.Prelude.{Result, Ok, Err, Some, None}
use Rattle.scan.specs.declared.fields.Fault.{Fault}
use Rattle.dimacs.proofs.WhichField.{short_line}

-- what holds at a line's start: the lines ls are left, of which the first is line k, and the state is s
pub record Going (F : Format) (text : List ℕ) (s : State) (ls : List (List ℕ)) (k : ℕ) : Type 0 where
  pub lined : k + length ls ≤ 65537
  pub short : (i : ℕ) → length (get_or ls i []) ≤ 65536
  pub nodes : (numbers_of s.head).first ≤ 512
  pub counts : (c : Column) → column_of c (numbers_of s.head) ≤ 2048
  pub same : read_text F text ≡ read_lines F ls k s

abbrev pub state : Head → List Bool → List Numbers → State
state h taken lines = record { head = h; taken = taken; lines = lines }

pub going_start : (F : Format) (text : List ℕ) → length text ≤ 65536 → (a : Numbers) → a ≡ none
    → Going F text (state (record { problem = None; count = 0 }) (replicate 2048 false) (replicate 2048 a)) (lines_of text) 1
unfolding read_text
going_start F text few a p =
    rw p (record {
      lined = omega (arith, pieces_few 10 text);
      short = λ i. omega (arith, piece_short 10 text i);
      nodes = omega arith;
      counts = none-counted;
      same = refl;
    })

-- ---- one line

-- what is known where the line `line`, before the lines `more`, is held as l
pub record Turn (F : Format) (text : List ℕ) (h : Head) (taken : List Bool) (lines : List Numbers) (ls more : List (List ℕ)) (k : ℕ) (line : List ℕ) (l : Result Line Fault) : Type 0 where
  pub ok : FormatFair F
  pub going : Going F text (state h taken lines) ls k
  pub first : ls ≡ line ∷ more
  pub held_line_lem : l ≡ held_line (format_line F line)

module _ (F : Format) (text : List ℕ) (h : Head) (taken : List Bool) (lines : List Numbers) (ls more : List (List ℕ)) (k : ℕ) (line : List ℕ) (l : Result Line Fault)
    (g : Turn F text h taken lines ls more k line l) where
  abbrev R : Rules
  R = rules_of F (numbers_of h)

  pub fair : Fair R
  fair = fair_of F g.ok (numbers_of h) g.going.nodes

  same_judgement : judged R h taken k l ≡ judged R h taken k (format_line F line)
  same_judgement = ap (judged R h taken k) g.held_line_lem ∙ judged-held R fair h taken k (format_line F line)

  turn : read_text F text ≡ on_judged (judged R h taken k l) (read_lines F more (k + 1) (next R (state h taken lines) (format_line F line)))
  unfolding read_lines
  turn = rw same_judgement (g.going.same ∙ rw g.first)

  -- a fault's column fits into 32 bits
  pub line_short : (f : Fault) → l ≡ Err f → f.column ≤ 65537
  line_short f e = short_line F line f (rw g.first at (g.going.short 0)) (sym g.held_line_lem ∙ e)

  line_out : (x : Refusal) → judged R h taken k l ≡ Err x → read_text F text ≡ refused x
  unfolding on_judged
  line_out x d = rw d at turn

  lined_on : k + 1 + length more ≤ 65537
  lined_on = omega (arith, rw g.first at g.going.lined)

  short_on : (i : ℕ) → length (get_or more i []) ≤ 65536
  short_on i = rw g.first at (g.going.short (suc i))

  onward : judged R h taken k l ≡ Ok tt → read_text F text ≡ read_lines F more (k + 1) (next R (state h taken lines) l)
  unfolding on_judged
  onward fine =
      let true-line = g.held_line_lem ∙ fine_held R fair h taken k (format_line F line) (sym same_judgement ∙ fine) in
      rw true-line (rw fine at turn)

  -- a line with a fault, whose column fits into 32 bits
  pub fault_short : (f : Fault) → l ≡ Err f → f.column ≤ 65537
  fault_short f e = short_line F line f (rw g.first at (g.going.short 0)) (sym g.held_line_lem ∙ e)

  pub fault_out : (f : Fault) → l ≡ Err f → read_text F text ≡ refused (fault_at k f.column f.kind)
  unfolding judged
  fault_out f e = line_out _ (rw e)

  pub comment_on : l ≡ Ok Comment → Going F text (state h taken lines) more (k + 1)
  unfolding judged next
  comment_on e =
      let on : read_text F text ≡ read_lines F more (k + 1) (next R (state h taken lines) l) = onward (rw e) in
      record { lined = lined_on; short = short_on; nodes = g.going.nodes; counts = g.going.counts; same = rw e at on }

  -- a problem line, which is judged as j
  module _ (ns : Numbers) (j : Judged) (p : j ≡ problem_judged R h k ns) (e : l ≡ Ok (Problem ns)) where
    problem_is : judged R h taken k l ≡ j
    unfolding judged
    problem_is = rw (e, p)

    pub problem_out : (x : Refusal) → j ≡ Err x → read_text F text ≡ refused x
    problem_out x d = line_out x (problem_is ∙ d)

    pub problem_on : j ≡ Ok tt → Going F text (state (record { problem = Some ns; count = h.count }) taken lines) more (k + 1)
    unfolding next
    problem_on d =
        let f = problem_fine R h k ns (sym p ∙ d) in
        let i = inside R.problem ns f.inside in
        let on = onward (problem_is ∙ d) in
        record {
          lined = lined_on;
          short = short_on;
          nodes = omega (arith, i.high.first, fair.nodes);
          counts = λ c. le_trans (column_below _ _ i.high c) (fair.counts c);
          same = rw e at on;
        }

  -- a data line, which is judged as j
  module _ (ns : Numbers) (j : Judged) (p : j ≡ data_judged R h taken k ns) (e : l ≡ Ok (Data ns)) where
    data_is : judged R h taken k l ≡ j
    unfolding judged
    data_is = rw (e, p)

    pub data_out : (x : Refusal) → j ≡ Err x → read_text F text ≡ refused x
    data_out x d = line_out x (data_is ∙ d)

    module _ (d : j ≡ Ok tt) where
      is_fine : DataFine R h taken ns
      is_fine = data_fine R h taken k ns (sym p ∙ d)

      pub data_low : R.once ≡ true → 1 ≤ ns.first
      data_low o = (once_in R ns fair is_fine.inside o).0

      pub data_room : h.count < 2048
      data_room = omega (arith, is_fine.room, g.going.counts R.count)

      module _ (i : ℕ) (w : i ≡ place R h ns) where
        pub data_place : i < 2048
        data_place = rw w (by_once R.once refl)
          where
            by_once : (z : Bool) → R.once ≡ z → cond z (ns.first - 1) h.count < 2048
            by_once true o = omega (arith, once_in R ns fair is_fine.inside o)
            by_once false o = data_room

        pub data_on : Going F text (state (record { problem = h.problem; count = h.count + 1 }) (set taken i true) (set lines i ns)) more (k + 1)
        unfolding next
        data_on =
            let on = onward (data_is ∙ d) in
            record { lined = lined_on; short = short_on; nodes = g.going.nodes; counts = g.going.counts; same = rw w (rw e at on) }

-- ---- the end

pub text_end : (F : Format) (text : List ℕ) (s : State) (k : ℕ) → Going F text s [] k
    → read_text F text ≡ on_judged (ended (rules_of F (numbers_of s.head)) s.head k) (read (numbers_of s.head) (take (announced (rules_of F (numbers_of s.head)) (numbers_of s.head)) s.lines))
unfolding read_lines
text_end F text s k g = g.same
