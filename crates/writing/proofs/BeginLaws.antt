-- The problem line of a text without comments stands first, and the data lines stand in order behind it.
use Rattle.std.specs.Prelude.{Some, Result, Ok, Err}
use Rattle.scan.specs.declared.fields.Fault.{Fault}
use mathlib.Core.Path.{◌≡◌, refl, sym, ap, ◌∙◌}
use mathlib.Core.List.{List, [], ◌∷◌, map}
use mathlib.Core.Bool.{true, false}
use Prim.Native.Nat.{ℕ, zero, suc, ◌+◌, ◌≤◌, ◌<◌}
use native.Mathlib.Omega.{arith}
use lib.ListN.{length, get_or, replicate, length-replicate}
use borrow.Author.Tests.{le-leb}
use Rattle.scan.specs.Fields.{none}
use Rattle.scan.specs.Pieces.{lines_of}
use Rattle.scan.specs.declared.holding.Numbers.{Numbers}
use Rattle.scan.specs.declared.line.Line.{Line}
use Rattle.scan.specs.declared.line.Line.TheVariants.{Comment, Problem, Data}
use Rattle.dimacs.specs.Rules.{within}
use Rattle.dimacs.specs.Formats.{format_line, rules_of}
use Rattle.dimacs.specs.Judgement.{announced, problem_judged, judged, ended}
use Rattle.dimacs.specs.Texts.{read, State, start, next, on_judged, read_lines, read_text}
use Rattle.dimacs.specs.declared.format.Format.{Format}
use Rattle.dimacs.proofs.Fairness.{data_fine}
use Rattle.dimacs.proofs.Sound.{Entry, onward}
use Rattle.dimacs.proofs.Counting.{clash}
use Rattle.scan.specs.Line.{is_comment}
use Rattle.scan.specs.Written.{NoComments}
use Rattle.writing.proofs.TextLaws.{data_of, Going, read_on_lem, Rest, rest_lines, comment_out}

-- after the problem line
abbrev pub opened : Numbers → State
opened q = record { head = record { problem = Some q; count = 0 }; taken = replicate 2048 false; lines = replicate 2048 none }

none_there : (n j : ℕ) → get_or (replicate n false) j false ≡ false
none_there zero j = refl
none_there (suc n) zero = refl
none_there (suc n) (suc j) = none_there n j

pub opened_going : (q : Numbers) → Going (opened q)
opened_going q = record { seen = refl; long = length-replicate {A = Numbers} 2048 none; free = λ j h. none_there 2048 j }

-- a problem line that is fine
pub open_line : (F : Format) (q : Numbers) (l : List ℕ) (ls : List (List ℕ)) → format_line F l ≡ Ok (Problem q) → within (rules_of F none).problem q ≡ true
    → (rules_of F none).fewest ≤ announced (rules_of F none) q → announced (rules_of F none) q ≤ (rules_of F none).most → read_lines F (l ∷ ls) 1 start ≡ read_lines F ls 2 (opened q)
unfolding read_lines on_judged judged problem_judged next
open_line F q l ls e i low high = rw (e, i, le-leb (rules_of F none).fewest (announced (rules_of F none) q) low, le-leb (announced (rules_of F none) q) (rules_of F none).most high)

-- lines in order after it
pub read_all : (F : Format) (q : Numbers) (ls : List (List ℕ)) (nss : List Numbers) → map (format_line F) ls ≡ map data_of nss → length nss ≡ announced (rules_of F q) q → announced (rules_of F q) q ≤ 2048
    → ((i : ℕ) → i < length nss → Entry (rules_of F q) i (get_or nss i none)) → read_lines F ls 2 (opened q) ≡ read q nss
read_all F q ls nss e n top h = read_on_lem F ls nss 2 (opened q) (opened_going q) e (omega arith) top (λ i k. let z : 0 + i ≡ i = omega arith in rw z (h i k))

-- a text without comments: its problem line, and its data lines
pub record Begun (F : Format) (text : List ℕ) (p : Numbers) (lines : List Numbers) : Type 0 where
  pub line : List ℕ
  pub others : List (List ℕ)
  pub numbers : List Numbers
  pub all_lines : lines_of text ≡ line ∷ others
  pub on_problem_line : format_line F line ≡ Ok (Problem p)
  pub data_lines : map (format_line F) others ≡ map data_of numbers
  pub count : length numbers ≡ announced (rules_of F p) p
  pub inside : (i : ℕ) → i < length numbers → within (rules_of F p).entries (get_or numbers i none) ≡ true
  pub reading : read_lines F others 2 (opened p) ≡ read p lines

module _ (F : Format) (text : List ℕ) (p : Numbers) (lines : List Numbers) where
  put_together : (l : List ℕ) (ls : List (List ℕ)) (q : Numbers) → lines_of text ≡ l ∷ ls → format_line F l ≡ Ok (Problem q) → read_lines F ls 2 (opened q) ≡ read p lines
      → Rest F ls (opened q) p → Begun F text p lines
  put_together l ls q e f g r = record {
    line = l;
    others = ls;
    numbers = r.numbers;
    all_lines = e;
    on_problem_line = f ∙ ap (λ (x : Numbers). Ok (Problem x)) r.problem;
    data_lines = r.data_lines;
    count = (let c = r.count in omega arith);
    inside = r.inside;
    reading = ap (λ (x : Numbers). read_lines F ls 2 (opened x)) (sym r.problem) ∙ g;
  }

  first_line : (l : List ℕ) (ls : List (List ℕ)) (line : Result Line Fault) → lines_of text ≡ l ∷ ls → format_line F l ≡ line → is_comment l ≡ false
      → ((i : ℕ) → i < length ls → is_comment (get_or ls i []) ≡ false)
      → judged (rules_of F none) start.head start.taken 1 line ≡ Ok tt → read_lines F ls 2 (next (rules_of F none) start line) ≡ read p lines → Begun F text p lines
  unfolding judged next
  first_line l ls (Ok Comment) e f c d j r = absurd (comment_out F l f c)
  first_line l ls (Ok (Problem q)) e f c d j r = put_together l ls q e f r (rest_lines F p lines ls 2 (opened q) d refl r)
  first_line l ls (Ok (Data ns)) e f c d j r = absurd (clash (data_fine (rules_of F none) start.head start.taken 1 ns j).seen)
  first_line l ls (Err g) e f c d j r = cc

  no_lines : read_lines F [] 1 start ≡ read p lines → ⊥
  unfolding read_lines on_judged ended
  no_lines e = cc

  pub begun : read_text F text ≡ read p lines → NoComments text → Begun F text p lines
  unfolding read_text read_lines
  begun e c = by_lines (lines_of text) refl e c.line
    where
      by_lines : (ls : List (List ℕ)) → lines_of text ≡ ls → read_lines F ls 1 start ≡ read p lines → ((i : ℕ) → i < length ls → is_comment (get_or ls i []) ≡ false) → Begun F text p lines
      by_lines [] q e c = absurd (no_lines e)
      by_lines (l ∷ ls) q e c = let d = onward _ _ _ _ e in first_line l ls (format_line F l) q refl (c 0 (omega arith)) (λ i h. c (suc i) (omega arith)) d.0 d.1

  pub in_order : (b : Begun F text p lines) → announced (rules_of F p) p ≤ 2048 → ((i : ℕ) → i < announced (rules_of F p) p → Entry (rules_of F p) i (get_or b.numbers i none)) → lines ≡ b.numbers
  in_order b top h =
      let a = read_all F p b.others b.numbers b.data_lines b.count top (λ i k. h i (omega (arith, b.count))) in
      let e : read p lines ≡ read p b.numbers = sym b.reading ∙ a in
      cc

-- lines that were read are written
pub lines_of_lem : (F : Format) (f : Numbers → List ℕ) → ((s : List ℕ) (ns : Numbers) → format_line F s ≡ data_of ns → s ≡ f ns)
    → (ls : List (List ℕ)) (nss : List Numbers) → map (format_line F) ls ≡ map data_of nss → ls ≡ map f nss
lines_of_lem F f h [] [] e = refl
lines_of_lem F f h [] (ns ∷ nss) e = cc
lines_of_lem F f h (l ∷ ls) [] e = cc
lines_of_lem F f h (l ∷ ls) (ns ∷ nss) e =
    let a : format_line F l ≡ data_of ns = cc in
    let b : map (format_line F) ls ≡ map data_of nss = cc in
    rw (h l ns a, lines_of_lem F f h ls nss b)
