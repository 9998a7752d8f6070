-- A line that was written by a form is read with its numbers, and one that was read is written again.
use mathlib.Core.Path.{◌≡◌, refl, ap, ◌∙◌}
use mathlib.Core.List.{List, [], ◌∷◌, ◌++◌}
use mathlib.Core.Bool.{Bool, true, false, cond, ◌&&◌}
use Prim.Native.Nat.{ℕ, suc, ◌+◌, ◌<◌}
use native.Mathlib.Omega.{arith}
use lib.Dec.{eqb, leb}
use lib.IntN.{ℤ, pos, negsuc}
use lib.ListN.{length, get_or}
use borrow.Author.Tests.{ne_eqb, eqb-true}
use Rattle.std.specs.Prelude.{Option, Some, None, option_map, Result, Ok, Err}
use Rattle.scan.specs.Pieces.{fields_of, first_at, first_field, same_bytes}
use Rattle.scan.specs.Numbers.{natural_of, integer_of}
use Rattle.scan.specs.Decimal.{decimal, whole}
use Rattle.scan.specs.Written.{spread}
use Rattle.scan.specs.Fields.{none, before, taken, on_field, matched}
use Rattle.scan.specs.Line.{problem_line, data_line, faulty, is_comment, line_of}
use Rattle.scan.specs.declared.holding.Numbers.{Numbers}
use Rattle.scan.specs.declared.holding.Value.{Value}
use Rattle.scan.specs.declared.holding.Value.TheVariants.{Word, Unsigned, Signed}
use Rattle.scan.specs.declared.fields.Fault.{Fault}
use Rattle.scan.specs.declared.fields.Kind.TheVariants.{EmptyLine, NoLetter}
use Rattle.scan.specs.declared.line.Line.TheVariants.{Comment, Problem, Data}
use Rattle.scan.proofs.DecimalLaws.{spelling, natural_read, integer_read, and_in}
use Rattle.scan.proofs.WrittenLaws.{Without, without_more, without_empty, Clear, fields_joined}

-- ---- numbers hold no space and no byte 10

pub decimal_without : (sep n : ℕ) → sep < 48 → Without sep (decimal n)
decimal_without sep n h = record { none = λ i k e. omega (arith, (spelling n).digit_low i k) }

pub whole_without : (sep : ℕ) (z : ℤ) → sep < 45 → Without sep (whole z)
unfolding whole
whole_without sep (pos n) h = decimal_without sep n (omega arith)
whole_without sep (negsuc n) h = without_more sep 45 (decimal (suc n)) (λ e. omega arith) (decimal_without sep (suc n) (omega arith))

-- words
pub word_1 : (sep a : ℕ) → (a ≡ sep → ⊥) → Without sep (a ∷ [])
word_1 sep a h = without_more sep a [] h (without_empty sep)

pub word_2 : (sep a b : ℕ) → (a ≡ sep → ⊥) → (b ≡ sep → ⊥) → Without sep (a ∷ b ∷ [])
word_2 sep a b h k = without_more sep a (b ∷ []) h (word_1 sep b k)

pub word_3 : (sep a b c : ℕ) → (a ≡ sep → ⊥) → (b ≡ sep → ⊥) → (c ≡ sep → ⊥) → Without sep (a ∷ b ∷ c ∷ [])
word_3 sep a b c h k l = without_more sep a (b ∷ c ∷ []) h (word_2 sep b c k l)

-- ---- a line that is written is read

first_field_lem : (b : ℕ) (f : List ℕ) (fs : List (List ℕ)) → (b ≡ 32 → ⊥) → first_field ((b ∷ []) ++ spread (f ∷ fs)) ≡ b ∷ []
unfolding first_at spread
first_field_lem b f fs h = rw (ne_eqb b 32 h)

module _ (problem rows : List ℕ) (b : ℕ) (f : List ℕ) (fs : List (List ℕ)) (h : b ≡ 32 → ⊥) (c : Clear 32 (f ∷ fs)) (ns : Numbers) where
  pub data_written : same_bytes (b ∷ []) (99 ∷ []) ≡ false → same_bytes (b ∷ []) (first_field rows) ≡ true
      → matched (fields_of rows) 1 ((b ∷ []) ∷ f ∷ fs) ≡ Ok ns → line_of problem rows ((b ∷ []) ++ spread (f ∷ fs)) ≡ Ok (Data ns)
  unfolding line_of
  data_written p q m =
      rw (ne_eqb (length ((b ∷ []) ++ spread (f ∷ fs))) 0 (λ e. omega arith), first_field_lem b f fs h, p, q, fields_joined (b ∷ []) (f ∷ fs) (word_1 32 b h) c, m)

  pub problem_written : same_bytes (b ∷ []) (99 ∷ []) ≡ false → same_bytes (b ∷ []) (first_field rows) ≡ false → same_bytes (b ∷ []) (first_field problem) ≡ true
      → matched (fields_of problem) 1 ((b ∷ []) ∷ f ∷ fs) ≡ Ok ns → line_of problem rows ((b ∷ []) ++ spread (f ∷ fs)) ≡ Ok (Problem ns)
  unfolding line_of
  problem_written p q r m =
      rw (ne_eqb (length ((b ∷ []) ++ spread (f ∷ fs))) 0 (λ e. omega arith), first_field_lem b f fs h, p, q, r, fields_joined (b ∷ []) (f ∷ fs) (word_1 32 b h) c, m)

pub uncommented : (b : ℕ) (f : List ℕ) (fs : List (List ℕ)) → (b ≡ 32 → ⊥) → eqb b 99 ≡ false → is_comment ((b ∷ []) ++ spread (f ∷ fs)) ≡ false
uncommented b f fs h k = rw (first_field_lem b f fs h, k)

-- ---- a line that was read is written

read_on_lem : (f : Option Value) (c : ℕ) (later : Result Numbers Fault) (full : Numbers) → on_field f c later ≡ Ok full → (v : Value) × (ms : Numbers) × (f ≡ Some v) × (later ≡ Ok ms) × (before v ms ≡ full)
unfolding on_field
read_on_lem (Some v) c (Ok ms) full e = (v, ms, refl, refl, cc)
read_on_lem (Some v) c (Err f) full e = cc
read_on_lem None c later full e = cc

word-taken : (z : Bool) (v : Value) → cond z (Some Word) None ≡ Some v → (z ≡ true) × (Word ≡ v)
word-taken true v e = (refl, cc)
word-taken false v e = cc

natural_taken : (n : Option ℕ) (v : Value) → option_map Unsigned n ≡ Some v → (u : ℕ) × (n ≡ Some u) × (Unsigned u ≡ v)
natural_taken (Some u) v e = (u, refl, cc)
natural_taken None v e = cc

integer_taken : (n : Option ℤ) (v : Value) → option_map Signed n ≡ Some v → (z : ℤ) × (n ≡ Some z) × (Signed z ≡ v)
integer_taken (Some z) v e = (z, refl, cc)
integer_taken None v e = cc

pub same_is : (s t : List ℕ) → same_bytes s t ≡ true → s ≡ t
same_is [] [] e = refl
same_is [] (c ∷ t) e = cc
same_is (b ∷ s) [] e = cc
same_is (b ∷ s) (c ∷ t) e =
    let d = and_in (eqb b c) (same_bytes s t) e in
    let f : b ≡ c = eqb-true b c d.0 in
    rw (f, same_is s t d.1)

-- a field of the form read off the line: the line's field, and what the later ones hold
module _ (p : List ℕ) (ps : List (List ℕ)) (c : ℕ) (full : Numbers) where
  pub matched_step : (fs : List (List ℕ)) → matched (p ∷ ps) c fs ≡ Ok full
      → (f : List ℕ) × (gs : List (List ℕ)) × (v : Value) × (ms : Numbers) × (fs ≡ f ∷ gs) × (taken p f ≡ Some v) × (matched ps (c + (length f + 1)) gs ≡ Ok ms) × (before v ms ≡ full)
  unfolding matched
  matched_step [] e = cc
  matched_step (f ∷ gs) e =
      let d = read_on_lem (taken p f) c (matched ps (c + (length f + 1)) gs) full e in
      (f, gs, d.0, d.1, refl, d.2, d.3, d.4)

  pub word_step : (fs : List (List ℕ)) → leb 65 (get_or p 0 0) && leb (get_or p 0 0) 90 ≡ false → matched (p ∷ ps) c fs ≡ Ok full
      → (k : ℕ) × (gs : List (List ℕ)) × (fs ≡ p ∷ gs) × (matched ps k gs ≡ Ok full)
  unfolding taken before
  word_step fs t e =
      let d = matched_step fs e in
      let w = word-taken (same_bytes d.0 p) d.2 (rw t at d.5) in
      let same : d.0 ≡ p = same_is d.0 p w.0 in
      let whole = ap (λ (v : Value). before v d.3) w.1 ∙ d.7 in
      (c + (length d.0 + 1), d.1, d.4 ∙ ap (λ (l : List ℕ). l ∷ d.1) same, d.6 ∙ ap Ok whole)

  pub natural_step : (fs : List (List ℕ)) → leb 65 (get_or p 0 0) && leb (get_or p 0 0) 90 ≡ true → leb 88 (get_or p 0 0) ≡ false → matched (p ∷ ps) c fs ≡ Ok full
      → (k v : ℕ) × (gs : List (List ℕ)) × (ms : Numbers) × (fs ≡ decimal v ∷ gs) × (matched ps k gs ≡ Ok ms) × (before (Unsigned v) ms ≡ full)
  unfolding taken
  natural_step fs t u e =
      let d = matched_step fs e in
      let w = natural_taken (natural_of d.0) d.2 (rw (t, u) at d.5) in
      let same : d.0 ≡ decimal w.0 = natural_read d.0 w.0 w.1 in
      (c + (length d.0 + 1), w.0, d.1, d.3, d.4 ∙ ap (λ (l : List ℕ). l ∷ d.1) same, d.6, ap (λ (v : Value). before v d.3) w.2 ∙ d.7)

  pub integer_step : (fs : List (List ℕ)) → leb 65 (get_or p 0 0) && leb (get_or p 0 0) 90 ≡ true → leb 88 (get_or p 0 0) ≡ true → matched (p ∷ ps) c fs ≡ Ok full
      → (k : ℕ) × (z : ℤ) × (gs : List (List ℕ)) × (ms : Numbers) × (fs ≡ whole z ∷ gs) × (matched ps k gs ≡ Ok ms) × (before (Signed z) ms ≡ full)
  unfolding taken
  integer_step fs t u e =
      let d = matched_step fs e in
      let w = integer_taken (integer_of d.0) d.2 (rw (t, u) at d.5) in
      let same : d.0 ≡ whole w.0 = integer_read d.0 w.0 w.1 in
      (c + (length d.0 + 1), w.0, d.1, d.3, d.4 ∙ ap (λ (l : List ℕ). l ∷ d.1) same, d.6, ap (λ (v : Value). before v d.3) w.2 ∙ d.7)

pub end_step : (c : ℕ) (fs : List (List ℕ)) (full : Numbers) → matched [] c fs ≡ Ok full → (fs ≡ []) × (none ≡ full)
unfolding matched
end_step c [] full e = (refl, cc)
end_step c (f ∷ fs) full e = cc

pub then_more : {fs gs hs : List (List ℕ)} (f : List ℕ) → fs ≡ f ∷ gs → gs ≡ hs → fs ≡ f ∷ hs
then_more f e h = e ∙ ap (λ (l : List (List ℕ)). f ∷ l) h

-- ---- whole lines

problem_no_data : (f : Result Numbers Fault) (ns : Numbers) → problem_line f ≡ Ok (Data ns) → ⊥
problem_no_data (Ok m) ns e = cc
problem_no_data (Err m) ns e = cc

data_no_problem : (f : Result Numbers Fault) (ns : Numbers) → data_line f ≡ Ok (Problem ns) → ⊥
data_no_problem (Ok m) ns e = cc
data_no_problem (Err m) ns e = cc

data_read : (f : Result Numbers Fault) (ns : Numbers) → data_line f ≡ Ok (Data ns) → f ≡ Ok ns
data_read (Ok m) ns e = cc
data_read (Err m) ns e = cc

problem_read : (f : Result Numbers Fault) (ns : Numbers) → problem_line f ≡ Ok (Problem ns) → f ≡ Ok ns
problem_read (Ok m) ns e = cc
problem_read (Err m) ns e = cc

problem_no_comment : (f : Result Numbers Fault) → problem_line f ≡ Ok Comment → ⊥
problem_no_comment (Ok m) e = cc
problem_no_comment (Err m) e = cc

data_no_comment : (f : Result Numbers Fault) → data_line f ≡ Ok Comment → ⊥
data_no_comment (Ok m) e = cc
data_no_comment (Err m) e = cc

module _ (problem rows s : List ℕ) where
  pub line_data : (ns : Numbers) → line_of problem rows s ≡ Ok (Data ns) → matched (fields_of rows) 1 (fields_of s) ≡ Ok ns
  unfolding line_of
  line_data ns e =
      by_tests (eqb (length s) 0) (same_bytes (first_field s) (99 ∷ [])) (same_bytes (first_field s) (first_field problem)) (same_bytes (first_field s) (first_field rows)) e
    where
      by_tests : (a b c d : Bool)
          → cond a (faulty EmptyLine) (cond b (Ok Comment) (cond d (data_line (matched (fields_of rows) 1 (fields_of s))) (cond c (problem_line (matched (fields_of problem) 1 (fields_of s))) (faulty NoLetter)))) ≡ Ok (Data ns)
          → matched (fields_of rows) 1 (fields_of s) ≡ Ok ns
      by_tests true b c d e = cc
      by_tests false true c d e = cc
      by_tests false false true false e = absurd (problem_no_data (matched (fields_of problem) 1 (fields_of s)) ns e)
      by_tests false false c true e = data_read (matched (fields_of rows) 1 (fields_of s)) ns e
      by_tests false false false false e = cc

  pub line_problem : (ns : Numbers) → line_of problem rows s ≡ Ok (Problem ns) → matched (fields_of problem) 1 (fields_of s) ≡ Ok ns
  unfolding line_of
  line_problem ns e =
      by_tests (eqb (length s) 0) (same_bytes (first_field s) (99 ∷ [])) (same_bytes (first_field s) (first_field problem)) (same_bytes (first_field s) (first_field rows)) e
    where
      by_tests : (a b c d : Bool)
          → cond a (faulty EmptyLine) (cond b (Ok Comment) (cond d (data_line (matched (fields_of rows) 1 (fields_of s))) (cond c (problem_line (matched (fields_of problem) 1 (fields_of s))) (faulty NoLetter)))) ≡ Ok (Problem ns)
          → matched (fields_of problem) 1 (fields_of s) ≡ Ok ns
      by_tests true b c d e = cc
      by_tests false true c d e = cc
      by_tests false false true false e = problem_read (matched (fields_of problem) 1 (fields_of s)) ns e
      by_tests false false c true e = absurd (data_no_problem (matched (fields_of rows) 1 (fields_of s)) ns e)
      by_tests false false false false e = cc

  pub line_comment : line_of problem rows s ≡ Ok Comment → is_comment s ≡ false → ⊥
  unfolding line_of
  line_comment e f =
      by_tests (eqb (length s) 0) (same_bytes (first_field s) (99 ∷ [])) (same_bytes (first_field s) (first_field problem)) (same_bytes (first_field s) (first_field rows)) e f
    where
      by_tests : (a b c d : Bool)
          → cond a (faulty EmptyLine) (cond b (Ok Comment) (cond d (data_line (matched (fields_of rows) 1 (fields_of s))) (cond c (problem_line (matched (fields_of problem) 1 (fields_of s))) (faulty NoLetter)))) ≡ Ok Comment
          → b ≡ false → ⊥
      by_tests true b c d e g = cc
      by_tests false true c d e g = cc
      by_tests false false true false e g = problem_no_comment (matched (fields_of problem) 1 (fields_of s)) e
      by_tests false false c true e g = data_no_comment (matched (fields_of rows) 1 (fields_of s)) e
      by_tests false false false false e g = cc
