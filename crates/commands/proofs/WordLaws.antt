-- Laws of the words of a line.
use Rattle.std.proofs.Common.{◌≡◌, refl, sym, ◌∙◌, ℕ, suc, ◌<◌, ◌≤◌, List, [], ◌∷◌, length, drop, Bool, true, false, cond, not, ◌&&◌, eqb, arith}
use mathlib.Core.Bool.{false≢true}
use borrow.Author.Tests.{ne_eqb}
use Rattle.std.specs.List.{slice_split, onto_first, list_all}
use Rattle.scan.specs.Pieces.{opening, pieces, first_at, first_field, fields_of}
use Rattle.scan.proofs.PieceLaws.{pieces_step}
use Rattle.commands.specs.Words.{words_of, after_word, none_empty}

-- ---- the first word, and the words after it

pub words_step : (s : List ℕ) → 0 < length s → words_of s ≡ first_field s ∷ words_of (after_word s)
words_step s h = pieces_step 32 s _ refl h

pub words_after : (s : List ℕ) → words_of (after_word s) ≡ drop 1 (words_of s)
unfolding pieces first_at
words_after [] = refl
words_after (b ∷ t) = rw (words_step (b ∷ t) (omega arith))

-- a word takes a byte at least
pub words_few : (s : List ℕ) → length (words_of s) ≤ length s
unfolding pieces opening
words_few [] = omega arith
words_few (b ∷ t) = by_space (eqb b 32) (words_of t) (words_few t)
  where
    by_space : (is : Bool) (ws : List (List ℕ)) → length ws ≤ length t → length (cond is ([] ∷ ws) (opening b ws)) ≤ suc (length t)
    by_space true ws h = omega arith
    by_space false [] h = omega arith
    by_space false (w ∷ ws) h = omega arith

-- ---- what `split` gives are the fields

opened : (b : ℕ) (ws : List (List ℕ)) → onto_first b ws ≡ opening b ws
unfolding opening
opened b [] = refl
opened b (w ∷ ws) = refl

pub fields_split : (s : List ℕ) → slice_split (λ b. eqb b 32) s ≡ fields_of s
unfolding pieces
fields_split [] = refl
fields_split (b ∷ t) = rw (opened b (slice_split (λ c. eqb c 32) t), fields_split t) refl

pub all_some : (ws : List (List ℕ)) → list_all (λ w. not (eqb (length w) 0)) ws ≡ none_empty ws
unfolding none_empty
all_some [] = refl
all_some ([] ∷ ws) = refl
all_some ((b ∷ w) ∷ ws) = rw (ne_eqb (suc (length w)) 0 (λ e. omega arith)) (all_some ws)

-- ---- no empty word: `was` says that a space, or the line's start, stands before

abbrev pub apart : Bool → List ℕ → Bool
apart was s = none_empty (cond was (fields_of s) (drop 1 (fields_of s)))

by_space : (was is : Bool) (b : ℕ) (fs : List (List ℕ)) → was && is ≡ false
    → none_empty (cond was (cond is ([] ∷ fs) (opening b fs)) (drop 1 (cond is ([] ∷ fs) (opening b fs)))) ≡ none_empty (cond is fs (drop 1 fs))
unfolding none_empty opening
by_space true true b fs h = absurd (false≢true (sym h))
by_space true false b [] h = refl
by_space true false b (l ∷ ls) h = refl
by_space false true b fs h = refl
by_space false false b [] h = refl
by_space false false b (l ∷ ls) h = refl

-- ---- the words of a line with no empty field are its fields

some_words : (was : Bool) (b : ℕ) (t : List ℕ) → apart was (b ∷ t) ≡ true → words_of (b ∷ t) ≡ fields_of (b ∷ t)
unfolding pieces opening none_empty
some_words was b [] h = by_byte was (eqb b 32) h
  where
    by_byte : (was is : Bool) → none_empty (cond was (cond is ([] ∷ [] ∷ []) ((b ∷ []) ∷ [])) (drop 1 (cond is ([] ∷ [] ∷ []) ((b ∷ []) ∷ [])))) ≡ true
        → cond is ([] ∷ []) ((b ∷ []) ∷ []) ≡ cond is ([] ∷ [] ∷ []) ((b ∷ []) ∷ [])
    by_byte true true h = absurd (false≢true h)
    by_byte false true h = absurd (false≢true h)
    by_byte was false h = refl
some_words was b (c ∷ u) h = by_byte was (eqb b 32) (λ is. some_words is c u) h
  where
    by_byte : (was is : Bool) → ((is : Bool) → apart is (c ∷ u) ≡ true → words_of (c ∷ u) ≡ fields_of (c ∷ u))
        → none_empty (cond was (cond is ([] ∷ fields_of (c ∷ u)) (opening b (fields_of (c ∷ u)))) (drop 1 (cond is ([] ∷ fields_of (c ∷ u)) (opening b (fields_of (c ∷ u)))))) ≡ true
        → cond is ([] ∷ words_of (c ∷ u)) (opening b (words_of (c ∷ u))) ≡ cond is ([] ∷ fields_of (c ∷ u)) (opening b (fields_of (c ∷ u)))
    by_byte true true ih h = absurd (false≢true h)
    by_byte true false ih h = rw (ih false (sym (by_space true false b (fields_of (c ∷ u)) refl) ∙ h))
    by_byte false is ih h = rw (ih is (sym (by_space false is b (fields_of (c ∷ u)) refl) ∙ h))

pub words_are_fields : (s : List ℕ) → none_empty (fields_of s) ≡ true → words_of s ≡ fields_of s
unfolding pieces none_empty
words_are_fields [] h = absurd (false≢true h)
words_are_fields (b ∷ t) h = some_words true b t h
