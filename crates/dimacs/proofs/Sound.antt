-- What an accepted text's lines satisfy, for any format: limits, counts, and each node once.
use mathlib.Core.Path.{◌≡◌, refl, sym, ap, ◌∙◌}
use mathlib.Core.List.{List, [], ◌∷◌}
use mathlib.Core.Bool.{Bool, true, false, cond}
use Prim.Native.Nat.{ℕ, ◌+◌, ◌-◌, ◌≤◌, ◌<◌}
use native.Mathlib.Nat.{le_trans}
use native.Mathlib.Decide.{ℕ_discrete}
use native.Mathlib.Omega.{arith}
use lib.Dec.{eqb, leb}
use lib.ListN.{length, get_or, take, set, length-set, replicate, length-replicate}
use lib.Seq.{get_or-set_same, get_or-set_other, get_or-take, length-take-le}
use borrow.Author.Tests.{leb-true, eqb-true, not-true}
use Rattle.rules.proofs.AndLaws.{and_true}
use Rattle.rules.proofs.JudgingLaws.{passed}
use Rattle.rules.specs.Judging.{Judged}
use Rattle.scan.specs.Fields.{none}
use Rattle.scan.specs.Pieces.{lines_of}
use Rattle.scan.specs.declared.holding.Numbers.{Numbers}
use Rattle.scan.specs.declared.line.Line.{Line}
use Rattle.scan.specs.declared.line.Line.TheVariants.{Comment, Problem, Data}
use Rattle.dimacs.specs.Rules.{column_of, within}
use Rattle.dimacs.specs.Gr.{gr_rules}
use Rattle.dimacs.specs.Co.{co_rules}
use Rattle.dimacs.specs.P2p.{p2p_rules}
use Rattle.dimacs.specs.Formats.{format_line, rules_of}
use Rattle.dimacs.specs.Judgement.{numbers_of, is_seen, announced, judged, ended}
use Rattle.dimacs.specs.Texts.{Outcome, read, State, start, place, next, on_judged, read_lines, read_text}
use Rattle.dimacs.specs.Fair.{Fair, FormatFair}
use Rattle.dimacs.specs.declared.rows.Column.{Column}
use Rattle.dimacs.specs.declared.rows.Column.TheVariants.{First, Second, Third}
use Rattle.dimacs.specs.declared.format.Rules.{Rules}
use Rattle.dimacs.specs.declared.format.Format.{Format}
use Rattle.dimacs.specs.declared.format.Format.TheVariants.{Graph, Coordinates, Queries}
use Rattle.dimacs.proofs.Counting.{trues, At, clash, trues_set, full, none-taken, trues_none}
use Rattle.dimacs.proofs.Fairness.{fair_of, column_below, inside, once_in, problem_fine, DataFine, data_fine}
use Rattle.std.specs.Prelude.{Result, Ok, Err}
use Rattle.scan.specs.declared.fields.Fault.{Fault}

-- a data line is within limits, and one of each node stands at its node's place
pub record Entry (R : Rules) (i : ℕ) (ns : Numbers) : Type 0 where
  pub inside : within R.entries ns ≡ true
  pub node : R.once ≡ true → ns.first ≡ i + 1

-- what is asked of an accepted text
pub record Sound (F : Format) (problem : Numbers) (lines : List Numbers) : Type 0 where
  pub inside : within (rules_of F problem).problem problem ≡ true
  pub fewest : (rules_of F problem).fewest ≤ announced (rules_of F problem) problem
  pub most : announced (rules_of F problem) problem ≤ (rules_of F problem).most
  pub long : length lines ≡ announced (rules_of F problem) problem
  pub entry : (i : ℕ) → i < announced (rules_of F problem) problem → Entry (rules_of F problem) i (get_or lines i none)

-- the places that data lines may stand at so far
abbrev reach : Rules → State → ℕ
reach R s = cond R.once R.entries.most.first s.head.count

-- what holds of the state at a line's start
record Kept (F : Format) (s : State) : Type 0 where
  pub taken_long : length s.taken ≡ 2048
  pub lines_long : length s.lines ≡ 2048
  pub unseen : (is_seen s.head) ≡ false → s.head.count ≡ 0
  pub nodes : (numbers_of s.head).first ≤ 512
  pub counts : (c : Column) → column_of c (numbers_of s.head) ≤ 2048
  pub problem : (is_seen s.head) ≡ true → within (rules_of F (numbers_of s.head)).problem (numbers_of s.head) ≡ true
  pub fewest : (is_seen s.head) ≡ true → (rules_of F (numbers_of s.head)).fewest ≤ announced (rules_of F (numbers_of s.head)) (numbers_of s.head)
  pub most : (is_seen s.head) ≡ true → announced (rules_of F (numbers_of s.head)) (numbers_of s.head) ≤ (rules_of F (numbers_of s.head)).most
  pub counted : trues s.taken ≡ s.head.count
  pub below : (i : ℕ) → At s.taken i → i < reach (rules_of F (numbers_of s.head)) s
  pub entry : (i : ℕ) → At s.taken i → Entry (rules_of F (numbers_of s.head)) i (get_or s.lines i none)

-- ---- the start

pub none-counted : (c : Column) → column_of c none ≤ 2048
none-counted First = omega arith
none-counted Second = omega arith
none-counted Third = omega arith

start-kept : (F : Format) → Kept F start
start-kept F =
    let empty : trues (replicate 2048 false) ≡ 0 = trues_none 2048 in
    record {
      taken_long = length-replicate {A = Bool} 2048 false;
      lines_long = length-replicate {A = Numbers} 2048 none;
      unseen = λ e. refl;
      nodes = omega arith;
      counts = none-counted;
      problem = λ e. absurd (clash e);
      fewest = λ e. absurd (clash e);
      most = λ e. absurd (clash e);
      counted = empty;
      below = λ i a. absurd (none-taken (replicate 2048 false) empty i a);
      entry = λ i a. absurd (none-taken (replicate 2048 false) empty i a);
    }

-- ---- a problem line

-- what a format asks of its problem line does not hang on it
alike_rules : (F : Format) (a b : Numbers)
    → ((rules_of F a).problem ≡ (rules_of F b).problem) × ((rules_of F a).fewest ≡ (rules_of F b).fewest) × ((rules_of F a).most ≡ (rules_of F b).most) × ((rules_of F a).count ≡ (rules_of F b).count)
unfolding gr_rules co_rules p2p_rules
alike_rules Graph a b = (refl, refl, refl, refl)
alike_rules (Coordinates n) a b = (refl, refl, refl, refl)
alike_rules (Queries n) a b = (refl, refl, refl, refl)

module _ (F : Format) (ok : FormatFair F) (s : State) (g : Kept F s) (k : ℕ) where
  fair : Fair (rules_of F (numbers_of s.head))
  fair = fair_of F ok (numbers_of s.head) g.nodes

  kept_problem : (ns : Numbers) → judged (rules_of F (numbers_of s.head)) s.head s.taken k (Ok (Problem ns)) ≡ Ok tt → Kept F (next (rules_of F (numbers_of s.head)) s (Ok (Problem ns)))
  unfolding judged next
  kept_problem ns e =
      let R = rules_of F (numbers_of s.head) in
      let f = problem_fine R s.head k ns e in
      let i = inside R.problem ns f.inside in
      let same = alike_rules F (numbers_of s.head) ns in
      let agreed = and_true (leb R.fewest (announced R ns)) (leb (announced R ns) R.most) f.agrees in
      let empty : trues s.taken ≡ 0 = g.counted ∙ g.unseen (not-true _ f.unseen) in
      record {
        taken_long = g.taken_long;
        lines_long = g.lines_long;
        unseen = λ d. absurd (clash (sym d));
        nodes = omega (arith, i.high.first, fair.nodes);
        counts = λ c. le_trans (column_below _ _ i.high c) (fair.counts c);
        problem = λ d. rw (← same.0) f.inside;
        fewest = λ d. rw (← same.1, ← same.3) (leb-true _ _ agreed.0);
        most = λ d. rw (← same.2, ← same.3) (leb-true _ _ agreed.1);
        counted = g.counted;
        below = λ j a. absurd (none-taken s.taken empty j a);
        entry = λ j a. absurd (none-taken s.taken empty j a);
      }

-- ---- a data line, at the place i

-- a mark among marks
after : (l : List Bool) (i j : ℕ) → i < length l → At (set l i true) j → (j ≡ i → ⊥) → At l j
after l i j h a other = sym (get_or-set_other l i j true false other) ∙ a

module _ (F : Format) (ok : FormatFair F) (s : State) (g : Kept F s) (k : ℕ) (ns : Numbers) (R : Rules) (er : R ≡ rules_of F (numbers_of s.head))
    (f : DataFine R s.head s.taken ns) (i : ℕ) (ei : i ≡ place R s.head ns) where
  fair_rules : Fair R
  fair_rules = rw er (fair_of F ok (numbers_of s.head) g.nodes)

  node_place : R.once ≡ true → i + 1 ≡ ns.first
  node_place o =
      let p = once_in R ns fair_rules f.inside o in
      let q : place R s.head ns ≡ ns.first - 1 = rw o in
      omega (arith, ei ∙ q)

  next_place : R.once ≡ false → i ≡ s.head.count
  next_place o = ei ∙ rw o

  in_row : i < 2048
  in_row = by_once R.once refl
    where
      by_once : (z : Bool) → R.once ≡ z → i < 2048
      by_once true o = omega (arith, node_place o, once_in R ns fair_rules f.inside o)
      by_once false o = omega (arith, next_place o, f.room, g.counts R.count)

  below_before : (j : ℕ) → At s.taken j → j < reach R s
  below_before j a = rw er (g.below j a)

  free : get_or s.taken i false ≡ false
  free = by_once R.once refl
    where
      by_mark : (z : Bool) → get_or s.taken i false ≡ z → R.once ≡ false → z ≡ false
      by_mark true m o = absurd (let b : i < s.head.count = rw o at (below_before i m) in omega (arith, next_place o))
      by_mark false m o = refl

      by_once : (z : Bool) → R.once ≡ z → get_or s.taken i false ≡ false
      by_once true o = rw (ei, o) (rw o at f.first_time)
      by_once false o = by_mark (get_or s.taken i false) refl o

  reach_more : (j : ℕ) → j < reach R s → j < cond R.once R.entries.most.first (s.head.count + 1)
  reach_more j h = by_once R.once h
    where
      by_once : (z : Bool) → j < cond z R.entries.most.first s.head.count → j < cond z R.entries.most.first (s.head.count + 1)
      by_once true b = b
      by_once false b = omega arith

  reach_place : i < cond R.once R.entries.most.first (s.head.count + 1)
  reach_place = by_once R.once refl
    where
      by_once : (z : Bool) → R.once ≡ z → i < cond z R.entries.most.first (s.head.count + 1)
      by_once true o = omega (arith, node_place o, (inside R.entries ns f.inside).high.first)
      by_once false o = omega (arith, next_place o)

  kept_data : Kept F (record { head = record { problem = s.head.problem; count = s.head.count + 1 }; taken = set s.taken i true; lines = set s.lines i ns })
  kept_data =
      let low : i < length s.taken = omega (arith, in_row, g.taken_long) in
      let room : i < length s.lines = omega (arith, in_row, g.lines_long) in
      record {
        taken_long = length-set s.taken i true ∙ g.taken_long;
        lines_long = length-set s.lines i ns ∙ g.lines_long;
        unseen = λ d. absurd (clash (sym d ∙ f.seen));
        nodes = g.nodes;
        counts = g.counts;
        problem = g.problem;
        fewest = g.fewest;
        most = g.most;
        counted = trues_set s.taken i low free ∙ ap (λ (n : ℕ). n + 1) g.counted;
        below = λ j a. rw (← er) (elim (ℕ_discrete j i) [
          | yes same ↦ rw same reach_place
          | no other ↦ reach_more j (below_before j (after s.taken i j low a other))
        ]);
        entry = λ j a. rw (← er) (elim (ℕ_discrete j i) [
          | yes same ↦ rw (same, get_or-set_same s.lines i ns none room) (record { inside = f.inside; node = λ o. sym (node_place o) })
          | no other ↦ rw (get_or-set_other s.lines i j ns none other, er) (g.entry j (after s.taken i j low a other))
        ]);
      }

-- ---- all lines

pub onward : (j : Judged) (o : Outcome) (p : Numbers) (ls : List Numbers) → on_judged j o ≡ read p ls → (j ≡ Ok tt) × (o ≡ read p ls)
unfolding on_judged
onward (Ok _) o p ls e = (refl, e)
onward (Err r) o p ls e = cc

kept_line : (F : Format) → FormatFair F → (s : State) → Kept F s → (k : ℕ) (l : Result Line Fault) → judged (rules_of F (numbers_of s.head)) s.head s.taken k l ≡ Ok tt
    → Kept F (next (rules_of F (numbers_of s.head)) s l)
unfolding next judged
kept_line F ok s g k (Ok Comment) e = g
kept_line F ok s g k (Ok (Problem ns)) e = kept_problem F ok s g k ns e
kept_line F ok s g k (Ok (Data ns)) e =
    let R = rules_of F (numbers_of s.head) in
    kept_data F ok s g k ns R refl (data_fine R s.head s.taken k ns e) (place R s.head ns) refl
kept_line F ok s g k (Err f) e = g

kept_end : (F : Format) → FormatFair F → (s : State) (k : ℕ) → Kept F s → ended (rules_of F (numbers_of s.head)) s.head k ≡ Ok tt
    → Sound F (numbers_of s.head) (take (announced (rules_of F (numbers_of s.head)) (numbers_of s.head)) s.lines)
unfolding ended
kept_end F ok s k g e =
    let R = rules_of F (numbers_of s.head) in
    let m = announced R (numbers_of s.head) in
    let d = and_true (is_seen s.head) (eqb s.head.count m) (passed _ _ e) in
    let all : s.head.count ≡ m = eqb-true _ _ d.1 in
    let in_lines : m ≤ length s.lines = omega (arith, g.counts R.count, g.lines_long) in
    record {
      inside = g.problem d.0;
      fewest = g.fewest d.0;
      most = g.most d.0;
      long = length-take-le m s.lines in_lines;
      entry = λ i h. rw (get_or-take m s.lines i none h) (g.entry i (full s.taken m (λ j a. by_once R.once refl d.0 all j (g.below j a)) (omega (arith, g.counted)) i h));
    }
  where
    by_once : (z : Bool) → (rules_of F (numbers_of s.head)).once ≡ z → (is_seen s.head) ≡ true → s.head.count ≡ announced (rules_of F (numbers_of s.head)) (numbers_of s.head)
        → (j : ℕ) → j < cond z (rules_of F (numbers_of s.head)).entries.most.first s.head.count → j < announced (rules_of F (numbers_of s.head)) (numbers_of s.head)
    by_once true o d all j h = omega (arith, (fair_of F ok (numbers_of s.head) g.nodes).all o, g.fewest d)
    by_once false o d all j h = omega arith

sound_lines : (F : Format) → FormatFair F → (ls : List (List ℕ)) (k : ℕ) (s : State) → Kept F s → (p : Numbers) (lines : List Numbers) → read_lines F ls k s ≡ read p lines → Sound F p lines
unfolding read_lines
sound_lines F ok [] k s g p lines e =
    let d = onward _ _ _ _ e in
    let a : (numbers_of s.head) ≡ p = cc in
    let b : take (announced (rules_of F (numbers_of s.head)) (numbers_of s.head)) s.lines ≡ lines = cc in
    rw (← a, ← b) (kept_end F ok s k g d.0)
sound_lines F ok (l ∷ ls) k s g p lines e =
    let d = onward _ _ _ _ e in
    sound_lines F ok ls (k + 1) (next (rules_of F (numbers_of s.head)) s (format_line F l)) (kept_line F ok s g k (format_line F l) d.0) p lines d.1

pub sound : (F : Format) → FormatFair F → (text : List ℕ) (p : Numbers) (lines : List Numbers) → read_text F text ≡ read p lines → Sound F p lines
unfolding read_text
sound F ok text p lines e = sound_lines F ok (lines_of text) 1 start (start-kept F) p lines e
