-- What the lines of a text without comments are, and what lines in order are read as, for any format.
use Rattle.std.specs.Prelude.{Result, Ok, Err}
use Rattle.scan.specs.declared.fields.Fault.{Fault}
use mathlib.Core.Path.{◌≡◌, refl, sym, ap, ◌∙◌}
use mathlib.Core.List.{List, [], ◌∷◌, ◌++◌, map, append_assoc, append-nil}
use mathlib.Core.Bool.{Bool, true, false, cond, ◌&&◌}
use Prim.Native.Nat.{ℕ, zero, suc, ◌+◌, ◌-◌, ◌≤◌, ◌<◌}
use native.Mathlib.Omega.{arith}
use native.Mathlib.Numerals.{add-one}
use native.Mathlib.Nat.{add-zero}
use lib.Dec.{eqb}
use lib.ListN.{length, get_or, take, set, length-set}
use lib.Seq.{get_or-set_other, take-suc-set}
use borrow.Author.Tests.{eq-eqb, lt-ltb, eqb-true, not-true}
use Rattle.scan.specs.Fields.{none}
use Rattle.scan.specs.declared.holding.Numbers.{Numbers}
use Rattle.scan.specs.declared.line.Line.{Line}
use Rattle.scan.specs.declared.line.Line.TheVariants.{Comment, Problem, Data}
use Rattle.dimacs.specs.Rules.{within}
use Rattle.dimacs.specs.Gr.{gr_problem, gr_arc, gr_line}
use Rattle.dimacs.specs.Co.{co_problem, co_node, co_line}
use Rattle.dimacs.specs.P2p.{p2p_problem, p2p_query, p2p_line}
use Rattle.dimacs.specs.Formats.{format_line, rules_of}
use Rattle.dimacs.specs.Judgement.{is_seen, numbers_of, announced, data_judged, judged, ended}
use Rattle.dimacs.specs.Texts.{read, State, place, next, on_judged, read_lines}
use Rattle.dimacs.specs.declared.format.Rules.{Rules}
use Rattle.dimacs.specs.declared.format.Format.{Format}
use Rattle.dimacs.specs.declared.format.Format.TheVariants.{Graph, Coordinates, Queries}
use Rattle.rules.proofs.AndLaws.{and_true}
use Rattle.rules.proofs.JudgingLaws.{passed}
use Rattle.dimacs.proofs.Fairness.{problem_fine, data_fine}
use Rattle.dimacs.proofs.Sound.{Entry, onward}
use Rattle.dimacs.proofs.Counting.{clash}
use Rattle.scan.specs.Line.{is_comment}
use Rattle.scan.proofs.FormLaws.{line_comment}

-- a data line that was read
abbrev pub data_of : Numbers → Result Line Fault
data_of ns = Ok (Data ns)

-- ---- lines in order are read as they stand

-- a problem line was seen, and no place from the count on is taken
pub record Going (s : State) : Type 0 where
  pub seen : is_seen s.head ≡ true
  pub long : length s.lines ≡ 2048
  pub free : (j : ℕ) → s.head.count ≤ j → get_or s.taken j false ≡ false

-- the state after a data line at the place i
abbrev stored : State → ℕ → Numbers → State
stored s i ns =
    record {
      head = record { problem = s.head.problem; count = s.head.count + 1 };
      taken = set s.taken i true;
      lines = set s.lines i ns;
    }

module _ (F : Format) (s : State) (g : Going s) (ns : Numbers) (en : Entry (rules_of F (numbers_of s.head)) s.head.count ns) where
  at_count : place (rules_of F (numbers_of s.head)) s.head ns ≡ s.head.count
  at_count = by_once (rules_of F (numbers_of s.head)).once refl
    where
      by_once : (z : Bool) → (rules_of F (numbers_of s.head)).once ≡ z → cond z (ns.first - 1) s.head.count ≡ s.head.count
      by_once true o = omega (arith, en.node o)
      by_once false o = refl

  not_again : (rules_of F (numbers_of s.head)).once && get_or s.taken (ns.first - 1) false ≡ false
  not_again = by_once (rules_of F (numbers_of s.head)).once refl
    where
      by_once : (z : Bool) → (rules_of F (numbers_of s.head)).once ≡ z → z && get_or s.taken (ns.first - 1) false ≡ false
      by_once true o = g.free (ns.first - 1) (omega (arith, en.node o))
      by_once false o = refl

  data_judged_lem : (k : ℕ) → s.head.count < announced (rules_of F (numbers_of s.head)) (numbers_of s.head) → judged (rules_of F (numbers_of s.head)) s.head s.taken k (data_of ns) ≡ Ok tt
  unfolding judged data_judged
  data_judged_lem k h = rw (g.seen, en.inside, not_again, lt-ltb s.head.count (announced (rules_of F (numbers_of s.head)) (numbers_of s.head)) h)

  line_on : (l : List ℕ) (ls : List (List ℕ)) (k : ℕ) → format_line F l ≡ data_of ns → s.head.count < announced (rules_of F (numbers_of s.head)) (numbers_of s.head)
      → read_lines F (l ∷ ls) k s ≡ read_lines F ls (k + 1) (stored s s.head.count ns)
  unfolding read_lines on_judged next
  line_on l ls k e h = rw (e, data_judged_lem k h, at_count)

  going_on : s.head.count < 2048 → Going (stored s s.head.count ns)
  going_on h = record {
    seen = g.seen;
    long = length-set s.lines s.head.count ns ∙ g.long;
    free = λ j k. get_or-set_other s.taken s.head.count j true false (λ e. omega arith) ∙ g.free j (omega arith);
  }

pub read_on_lem : (F : Format) (ls : List (List ℕ)) (nss : List Numbers) (k : ℕ) (s : State) → Going s
    → map (format_line F) ls ≡ map data_of nss → s.head.count + length nss ≡ announced (rules_of F (numbers_of s.head)) (numbers_of s.head) → announced (rules_of F (numbers_of s.head)) (numbers_of s.head) ≤ 2048
    → ((i : ℕ) → i < length nss → Entry (rules_of F (numbers_of s.head)) (s.head.count + i) (get_or nss i none))
    → read_lines F ls k s ≡ read (numbers_of s.head) (take s.head.count s.lines ++ nss)
unfolding read_lines on_judged ended
read_on_lem F [] [] k s g e n top h =
    let all : s.head.count ≡ announced (rules_of F (numbers_of s.head)) (numbers_of s.head) = omega arith in
    rw (g.seen, eq-eqb s.head.count (announced (rules_of F (numbers_of s.head)) (numbers_of s.head)) all, append-nil, all)
read_on_lem F [] (ns ∷ nss) k s g e n top h = cc
read_on_lem F (l ∷ ls) [] k s g e n top h = cc
read_on_lem F (l ∷ ls) (ns ∷ nss) k s g e n top h =
    let c = s.head.count in
    let a : format_line F l ≡ data_of ns = cc in
    let b : map (format_line F) ls ≡ map data_of nss = cc in
    let here : Entry (rules_of F (numbers_of s.head)) c ns = rw (add-zero c) at (h 0 (omega arith)) in
    let room : c < announced (rules_of F (numbers_of s.head)) (numbers_of s.head) = omega arith in
    let ih = read_on_lem F ls nss (k + 1) (stored s c ns) (going_on F s g ns here (omega arith)) b (omega arith) top
    (λ i low. let same : c + suc i ≡ c + 1 + i = omega arith in rw same at (h (suc i) (omega arith))) in
    line_on F s g ns here l ls k a room
    ∙ (ih ∙ ap (λ (t : List Numbers). read (numbers_of s.head) t) (rw (add-one c, take-suc-set s.lines c ns (omega (arith, g.long))) (append_assoc (take c s.lines) (ns ∷ []) nss)))

-- ---- the lines of a text that has no comments

pub comment_out : (F : Format) (l : List ℕ) → format_line F l ≡ Ok Comment → is_comment l ≡ false → ⊥
unfolding gr_line co_line p2p_line
comment_out Graph l e f = line_comment gr_problem gr_arc l e f
comment_out (Coordinates n) l e f = line_comment co_problem co_node l e f
comment_out (Queries n) l e f = line_comment p2p_problem p2p_query l e f

-- after the problem line come data lines, within limits and as many as it says
pub record Rest (F : Format) (ls : List (List ℕ)) (s : State) (p : Numbers) : Type 0 where
  pub numbers : List Numbers
  pub data_lines : map (format_line F) ls ≡ map data_of numbers
  pub problem : (numbers_of s.head) ≡ p
  pub count : s.head.count + length numbers ≡ announced (rules_of F p) p
  pub inside : (i : ℕ) → i < length numbers → within (rules_of F p).entries (get_or numbers i none) ≡ true

module _ (F : Format) (p : Numbers) (lines : List Numbers) where
  one_line : (l : List ℕ) (ls : List (List ℕ)) (k : ℕ) (s : State) (line : Result Line Fault) → format_line F l ≡ line → is_comment l ≡ false → is_seen s.head ≡ true
      → judged (rules_of F (numbers_of s.head)) s.head s.taken k line ≡ Ok tt
      → Rest F ls (next (rules_of F (numbers_of s.head)) s line) p → Rest F (l ∷ ls) s p
  unfolding judged next
  one_line l ls k s (Ok Comment) e c seen j r = absurd (comment_out F l e c)
  one_line l ls k s (Ok (Problem ns)) e c seen j r =
      absurd (clash (sym (not-true _ (problem_fine (rules_of F (numbers_of s.head)) s.head k ns j).unseen) ∙ seen))
  one_line l ls k s (Ok (Data ns)) e c seen j r =
      let d = data_fine (rules_of F (numbers_of s.head)) s.head s.taken k ns j in
      record {
        numbers = ns ∷ r.numbers;
        data_lines = rw (e, r.data_lines);
        problem = r.problem;
        count = (let q = r.count in omega arith);
        inside = λ i h. by_place i h (rw r.problem at d.inside) r.inside;
      }
    where
      by_place : (i : ℕ) → i < suc (length r.numbers) → within (rules_of F p).entries ns ≡ true
          → ((i : ℕ) → i < length r.numbers → within (rules_of F p).entries (get_or r.numbers i none) ≡ true)
          → within (rules_of F p).entries (get_or (ns ∷ r.numbers) i none) ≡ true
      by_place zero h a b = a
      by_place (suc i) h a b = b i (omega arith)
  one_line l ls k s (Err f) e c seen j r = cc

  seen_on : (R : Rules) (s : State) (line : Result Line Fault) → is_seen s.head ≡ true → is_seen (next R s line).head ≡ true
  unfolding next
  seen_on R s (Ok Comment) e = e
  seen_on R s (Ok (Problem ns)) e = refl
  seen_on R s (Ok (Data ns)) e = e
  seen_on R s (Err f) e = e

  pub rest_lines : (ls : List (List ℕ)) (k : ℕ) (s : State) → ((i : ℕ) → i < length ls → is_comment (get_or ls i []) ≡ false) → is_seen s.head ≡ true
      → read_lines F ls k s ≡ read p lines → Rest F ls s p
  unfolding read_lines ended
  rest_lines [] k s c seen e =
      let d = onward _ _ _ _ e in
      let same : (numbers_of s.head) ≡ p = cc in
      let m = and_true (is_seen s.head) (eqb s.head.count (announced (rules_of F (numbers_of s.head)) (numbers_of s.head))) (passed _ _ d.0) in
      let all : s.head.count ≡ announced (rules_of F (numbers_of s.head)) (numbers_of s.head) = eqb-true _ _ m.1 in
      record { numbers = []; data_lines = refl; problem = same; count = rw (add-zero s.head.count, ← same) all; inside = λ i h. absurd (omega arith) }
  rest_lines (l ∷ ls) k s c seen e =
      let R = rules_of F (numbers_of s.head) in
      let d = onward _ _ _ _ e in
      one_line l ls k s (format_line F l) refl (c 0 (omega arith)) seen d.0
      (rest_lines ls (k + 1) (next R s (format_line F l)) (λ i h. c (suc i) (omega arith)) (seen_on R s (format_line F l) seen) d.1)
