-- A line has a fault exactly where it has no form of its format, and where the fault is seen.
use mathlib.Core.Path.{◌≡◌, refl, sym, ap, subst, ◌∙◌}
use mathlib.Core.Logic.{◌⊎◌, inl, inr, ⊎_elim}
use mathlib.Core.List.{List, [], ◌∷◌}
use mathlib.Core.Bool.{Bool, true, false, cond, ◌&&◌}
use Prim.Native.Nat.{ℕ, suc, ◌+◌, ◌-◌, ◌≤◌, ◌<◌}
use native.Mathlib.Nat.{eq-or-lt_of_le}
use native.Mathlib.Omega.{arith}
use lib.Dec.{eqb, leb}
use lib.ListN.{length, get_or, take, drop, length-drop}
use lib.Seq.{get_or-drop, drop-drop, length-take-le}
use borrow.Author.Tests.{eqb-true, eq-eqb, ne_eqb, lt-ltb, le-ltb}
use Rattle.std.specs.Prelude.{Option, Some, None, Result, Ok, Err}
use Rattle.scan.specs.Pieces.{first_at, first_field, same_bytes, fields_of}
use Rattle.scan.specs.Fields.{before, taken, on_field, matched}
use Rattle.scan.specs.Line.{problem_line, data_line, faulty, is_comment, line_of}
use Rattle.scan.specs.Faults.{Fits, ends, goes_on, HasForm, comment, on_problem_line, on_data_line, HasFault, AfterSpace, SeenAt}
use Rattle.scan.specs.declared.holding.Numbers.{Numbers}
use Rattle.scan.specs.declared.holding.Value.{Value}
use Rattle.scan.specs.declared.holding.Value.TheVariants.{Word}
use Rattle.scan.specs.declared.fields.Kind.{Kind}
use Rattle.scan.specs.declared.fields.Kind.TheVariants.{EmptyLine, NoLetter, Misspelt, Missing, Extra}
use Rattle.scan.specs.declared.fields.Fault.{Fault}
use Rattle.scan.specs.declared.line.Line.{Line}
use Rattle.scan.specs.declared.line.Line.TheVariants.{Comment, Problem, Data}
use Rattle.scan.proofs.PieceLaws.{first_le}
use Rattle.scan.proofs.MatchingLaws.{later, fields_first}
use Rattle.scan.proofs.FormLaws.{matched_step, word_step, end_step, same_is}

-- ---- fields that are read are those that fit

taken_on : (f : Option Value) (v : Value) (c : ℕ) (later : Result Numbers Fault) (ns : Numbers) → f ≡ Some v → later ≡ Ok ns → on_field f c later ≡ Ok (before v ns)
unfolding on_field
taken_on f v c later ns e r = rw (e, r)

pub fits_read : {ps fs : List (List ℕ)} → Fits ps fs → (c : ℕ) → (ns : Numbers) × (matched ps c fs ≡ Ok ns)
unfolding matched
fits_read ends c = (_, refl)
fits_read (goes_on {f = f} {v = v} t r) c =
    let d = fits_read r (c + (length f + 1)) in
    (before v d.0, taken_on _ v c _ d.0 t d.1)

pub read_fits : (ps fs : List (List ℕ)) (c : ℕ) (ns : Numbers) → matched ps c fs ≡ Ok ns → Fits ps fs
read_fits [] fs c ns e = subst (λ (gs : List (List ℕ)). Fits [] gs) (sym (end_step c fs ns e).0) ends
read_fits (p ∷ ps) fs c ns e =
    let d = matched_step p ps c ns fs e in
    subst (λ (gs : List (List ℕ)). Fits (p ∷ ps) gs) (sym d.4) (goes_on d.5 (read_fits ps d.1 _ d.3 d.6))

-- ---- where a fault is seen

-- what stands where the first byte sep was found
first_is : (sep : ℕ) (s : List ℕ) → first_at sep s < length s → get_or s (first_at sep s) 0 ≡ sep
unfolding first_at
first_is sep [] h = absurd (omega arith)
first_is sep (b ∷ t) h = by_first (eqb b sep) refl (first_is sep t) h
  where
    by_first : (z : Bool) → eqb b sep ≡ z → (first_at sep t < length t → get_or t (first_at sep t) 0 ≡ sep)
        → cond z 0 (suc (first_at sep t)) < suc (length t) → get_or (b ∷ t) (cond z 0 (suc (first_at sep t))) 0 ≡ sep
    by_first true e ih k = eqb-true b sep e
    by_first false e ih k = ih (omega arith)

-- a fault of which kind and column are known
abbrev Seen : List ℕ → Fault → Type 0
Seen s f = SeenAt s f.kind f.column

same_fault : (a b : Fault) → ◌≡◌ {A = Result Numbers Fault} (Err a) (Err b) → a ≡ b
same_fault a b e = cc

on_unread : (f : Option Value) (c : ℕ) (later : Result Numbers Fault) (x : Fault) → on_field f c later ≡ Err x → ((f ≡ None) × (record { kind = Misspelt; column = c } ≡ x)) ⊎ ((v : Value) × (f ≡ Some v) × (later ≡ Err x))
unfolding on_field
on_unread (Some v) c (Ok ns) x e = cc
on_unread (Some v) c (Err y) x e = inr (v, refl, e)
on_unread None c later x e = inl (refl, same_fault _ x e)

-- the fields ps after one that begins after i bytes of s and ends e bytes on
missing : (s : List ℕ) (ps : List (List ℕ)) (c : ℕ) (x : Fault) → c - 1 ≡ length s + 1 → matched ps c [] ≡ Err x → Seen s x
unfolding matched
missing s [] c x h e = cc
missing s (p ∷ ps) c x h e = subst (Seen s) (same_fault _ x e) h

module _ (s : List ℕ) (ps : List (List ℕ)) (i e : ℕ) (x : Fault) (h : i ≤ length s) (at-e : e ≡ first_at 32 (drop i s))
    (on : (j : ℕ) → AfterSpace s (j + 1) → matched ps (j + 1) (fields_of (drop j s)) ≡ Err x → Seen s x) where
  next_space : e < length (drop i s) → AfterSpace s (i + (e + 1) + 1)
  next_space k =
      let long = length-drop i s in
      let byte : get_or (drop i s) e 0 ≡ 32 = rw at-e (first_is 32 (drop i s) (rw at-e at k)) in
      let place : (i + (e + 1) + 1) - 2 ≡ i + e = omega arith in
      record { low = omega arith; high = omega (arith, long, k); space = ap (λ (j : ℕ). get_or s j 0) place ∙ sym (get_or-drop i s e 0) ∙ byte }

  after : matched ps (i + 1 + (length (take e (drop i s)) + 1)) (later (drop i s) e) ≡ Err x → Seen s x
  after m =
      let long = length-drop i s in
      let few = first_le 32 (drop i s) in
      let whole : length (take e (drop i s)) ≡ e = length-take-le e (drop i s) (omega (arith, few, at-e)) in
      let r = rw whole at m in
      ⊎_elim (λ (k : first_at 32 (drop i s) ≡ length (drop i s)). missing s ps _ x (omega (arith, long, k, at-e, h)) (rw (le-ltb e (length (drop i s)) (omega (arith, k, at-e))) at r))
      (λ (k : first_at 32 (drop i s) < length (drop i s)).
      let there : i + 1 + (e + 1) ≡ i + (e + 1) + 1 = omega arith in
      on (i + (e + 1)) (next_space (omega (arith, k, at-e))) (rw (lt-ltb e (length (drop i s)) (omega (arith, k, at-e)), there, drop-drop (e + 1) i s) at r))
      (eq-or-lt_of_le few)

seen : (s : List ℕ) (ps : List (List ℕ)) (i : ℕ) (x : Fault) → AfterSpace s (i + 1) → matched ps (i + 1) (fields_of (drop i s)) ≡ Err x → Seen s x
unfolding matched
seen s [] i x h e = subst (Seen s) (same_fault _ x (rw (fields_first (drop i s) (first_at 32 (drop i s)) refl) at e)) h
seen s (p ∷ ps) i x h e =
    let q = rw (fields_first (drop i s) (first_at 32 (drop i s)) refl) at e in
    ⊎_elim (λ (z : (taken p (take (first_at 32 (drop i s)) (drop i s)) ≡ None) × (record { kind = Misspelt; column = i + 1 } ≡ x)). subst (Seen s) z.1 h)
    (λ z. after s ps i (first_at 32 (drop i s)) x (omega (arith, h.high)) refl (λ j k m. seen s ps j x k m) z.2) (on_unread _ _ _ x q)

-- ---- a whole line

some : (s : List ℕ) → eqb (length s) 0 ≡ false → 0 < length s
some [] e = cc
some (b ∷ t) e = omega arith

-- a form whose first field is a word
abbrev pub Lettered : List ℕ → Type 0
Lettered form = leb 65 (get_or (first_field form) 0 0) && leb (get_or (first_field form) 0 0) 90 ≡ false

-- the first fields of a format's forms are two words
pub record Forms (problem rows : List ℕ) : Type 0 where
  pub problem_word : Lettered problem
  pub rows-word : Lettered rows
  pub problem_some : 0 < length (first_field problem)
  pub rows_some : 0 < length (first_field rows)
  pub apart : same_bytes (first_field problem) (first_field rows) ≡ false

word-taken : (form s : List ℕ) → Lettered form → same_bytes (first_field s) (first_field form) ≡ true → taken (first_field form) (first_field s) ≡ Some Word
unfolding taken
word-taken form s w e = rw (w, e)

on_word : (c : ℕ) (later : Result Numbers Fault) (y : Fault) → on_field (Some Word) c later ≡ Err y → later ≡ Err y
unfolding on_field
on_word c (Ok ns) y n = cc
on_word c (Err f) y n = n

form_seen : (form s : List ℕ) (x : Fault) → Lettered form → same_bytes (first_field s) (first_field form) ≡ true → matched (fields_of form) 1 (fields_of s) ≡ Err x → Seen s x
unfolding matched
form_seen form s x w e m =
    let q = rw (fields_first form (first_at 32 form) refl, fields_first s (first_at 32 s) refl, word-taken form s w e) at m in
    let ps = later form (first_at 32 form) in
    after s ps 0 (first_at 32 s) x (omega arith) refl (λ j k n. seen s ps j x k n) (on_word _ _ x q)

problem_faulty : (f : Result Numbers Fault) (x : Fault) → problem_line f ≡ Err x → f ≡ Err x
problem_faulty (Ok m) x e = cc
problem_faulty (Err y) x e = cc

data_faulty : (f : Result Numbers Fault) (x : Fault) → data_line f ≡ Err x → f ≡ Err x
data_faulty (Ok m) x e = cc
data_faulty (Err y) x e = cc

faulty_is : (a b : Fault) → ◌≡◌ {A = Result Line Fault} (Err a) (Err b) → a ≡ b
faulty_is a b e = cc

-- where the first field is not empty, neither is the line
not_empty : (s l : List ℕ) → first_field s ≡ l → 0 < length l → eqb (length s) 0 ≡ false
not_empty s l e h =
    let few = first_le 32 s in
    let long : length (first_field s) ≡ first_at 32 s = length-take-le (first_at 32 s) s few in
    let same = ap (length {A = ℕ}) e in
    ne_eqb (length s) 0 (λ z. omega (arith, few, long, same, h, z))

read_first : (form s : List ℕ) (ns : Numbers) → Lettered form → matched (fields_of form) 1 (fields_of s) ≡ Ok ns → first_field s ≡ first_field form
read_first form s ns w e =
    let m = rw (fields_first form (first_at 32 form) refl) at e in
    let q = word_step (first_field form) (later form (first_at 32 form)) 1 ns (fields_of s) w m in
    ap (λ (fs : List (List ℕ)). get_or fs 0 []) (sym (fields_first s (first_at 32 s) refl) ∙ q.2)

same_self : (l : List ℕ) → same_bytes l l ≡ true
same_self [] = refl
same_self (b ∷ l) = rw (eq-eqb b b refl, same_self l)

module _ (problem rows s : List ℕ) where
  pub line-seen : (x : Fault) → Forms problem rows → line_of problem rows s ≡ Err x → SeenAt s x.kind x.column
  unfolding line_of
  line-seen x w e =
      by_tests (eqb (length s) 0) (is_comment s) (same_bytes (first_field s) (first_field problem)) (same_bytes (first_field s) (first_field rows)) refl refl refl e
    where
      by_tests : (a b c d : Bool) → eqb (length s) 0 ≡ a → same_bytes (first_field s) (first_field problem) ≡ c → same_bytes (first_field s) (first_field rows) ≡ d
          → cond a (faulty EmptyLine) (cond b (Ok Comment) (cond d (data_line (matched (fields_of rows) 1 (fields_of s))) (cond c (problem_line (matched (fields_of problem) 1 (fields_of s))) (faulty NoLetter)))) ≡ Err x
          → Seen s x
      by_tests true b c d p q r e = subst (Seen s) (faulty_is _ x e) (eqb-true _ _ p, refl)
      by_tests false true c d p q r e = cc
      by_tests false false true false p q r e = form_seen problem s x w.problem_word q (problem_faulty _ x e)
      by_tests false false c true p q r e = form_seen rows s x w.rows-word r (data_faulty _ x e)
      by_tests false false false false p q r e = subst (Seen s) (faulty_is _ x e) (some s p, refl)

  -- a line without a form has a fault
  pub formless_fault : (HasForm problem rows s → ⊥) → HasFault (line_of problem rows s)
  unfolding line_of
  formless_fault no-form =
      by_tests (eqb (length s) 0) (is_comment s) (same_bytes (first_field s) (first_field problem)) (same_bytes (first_field s) (first_field rows)) refl (matched (fields_of problem) 1 (fields_of s)) refl (matched (fields_of rows) 1 (fields_of s)) refl
    where
      by_tests : (a b c d : Bool) → is_comment s ≡ b → (f : Result Numbers Fault) → matched (fields_of problem) 1 (fields_of s) ≡ f → (g : Result Numbers Fault) → matched (fields_of rows) 1 (fields_of s) ≡ g
          → HasFault (cond a (faulty EmptyLine) (cond b (Ok Comment) (cond d (data_line g) (cond c (problem_line f) (faulty NoLetter)))))
      by_tests true b c d p f q g r = (_, refl)
      by_tests false true c d p f q g r = absurd (no-form (comment p))
      by_tests false false true false p (Ok ns) q g r = absurd (no-form (on_problem_line (read_fits _ _ 1 ns q)))
      by_tests false false true false p (Err x) q g r = (x, refl)
      by_tests false false c true p f q (Ok ns) r = absurd (no-form (on_data_line (read_fits _ _ 1 ns r)))
      by_tests false false c true p f q (Err x) r = (x, refl)
      by_tests false false false false p f q g r = (_, refl)

  -- a line with a form has none
  module _ (w : Forms problem rows) (x : Fault) (e : line_of problem rows s ≡ Err x) where
    no_comment : is_comment s ≡ true → ⊥
    unfolding line_of
    no_comment p =
        let q = rw (not_empty s (99 ∷ []) (same_is _ _ p) (omega arith), p) at e in
        cc

    no_problem : (ns : Numbers) → matched (fields_of problem) 1 (fields_of s) ≡ Ok ns → ⊥
    unfolding line_of
    no_problem ns m =
        let first = read_first problem s ns w.problem_word m in
        by_comment (is_comment s) (rw (not_empty s _ first w.problem_some, ap (λ (l : List ℕ). same_bytes l (first_field rows)) first ∙ w.apart, ap (λ (l : List ℕ). same_bytes l (first_field problem)) first ∙ same_self (first_field problem), m) at e)
      where
        by_comment : (b : Bool) → cond b (Ok Comment) (Ok (Problem ns)) ≡ Err x → ⊥
        by_comment true e = cc
        by_comment false e = cc

    no_data : (ns : Numbers) → matched (fields_of rows) 1 (fields_of s) ≡ Ok ns → ⊥
    unfolding line_of
    no_data ns m =
        let first = read_first rows s ns w.rows-word m in
        by_comment (is_comment s) (rw (not_empty s _ first w.rows_some, ap (λ (l : List ℕ). same_bytes l (first_field rows)) first ∙ same_self (first_field rows), m) at e)
      where
        by_comment : (b : Bool) → cond b (Ok Comment) (Ok (Data ns)) ≡ Err x → ⊥
        by_comment true e = cc
        by_comment false e = cc

    pub fault_formless : HasForm problem rows s → ⊥
    fault_formless (comment p) = no_comment p
    fault_formless (on_problem_line fit) = let d = fits_read fit 1 in no_problem d.0 d.1
    fault_formless (on_data_line fit) = let d = fits_read fit 1 in no_data d.0 d.1

-- ---- the column is on the line, or just after it

pub seen-within : (s : List ℕ) (x : Fault) → SeenAt s x.kind x.column → (1 ≤ x.column) × (x.column ≤ length s + 1)
seen-within s x h = by_kind x.kind x.column h
  where
    by_kind : (k : Kind) (c : ℕ) → SeenAt s k c → (1 ≤ c) × (c ≤ length s + 1)
    by_kind EmptyLine c h = (omega (arith, h.1), omega (arith, h.1))
    by_kind NoLetter c h = (omega (arith, h.1), omega (arith, h.1))
    by_kind Misspelt c h = (omega (arith, h.low), h.high)
    by_kind Missing c h = (omega (arith, h), omega (arith, h))
    by_kind Extra c h = (omega (arith, h.low), h.high)
