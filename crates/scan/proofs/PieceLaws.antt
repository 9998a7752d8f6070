-- Laws of a text's pieces, and of what the scanner sees from a position on.
use Rattle.std.specs.Prelude.{Some, None, unwrap_or}
use Rattle.std.specs.List.{position, position_or_len}
use Rattle.std.proofs.lemmas.List.Recursion.{is_position_or_len}
use mathlib.Core.Path.{◌≡◌, refl, sym, ap, ap₂, ◌∙◌}
use mathlib.Core.Logic.{◌⊎◌, inl, inr, ⊎_elim}
use mathlib.Core.List.{List, [], ◌∷◌}
use mathlib.Core.Bool.{Bool, true, false, cond}
use Prim.Native.Nat.{ℕ, zero, suc, ◌+◌, ◌-◌, ◌≤◌, ◌<◌, zero-le, suc-le-suc}
use native.Mathlib.Nat.{add_assoc, le_of_suc-le-suc, not-suc-le-zero, le_of_eq, le_trans, le-suc, eq-or-lt_of_le}
use native.Mathlib.Numerals.{add-one}
use native.Mathlib.Omega.{arith}
use native.Mathlib.Decide.{dec_le}
use lib.Dec.{eqb, ltb}
use lib.ListN.{length, get_or, take, drop, length-drop, drop_of_length-le}
use lib.Seq.{drop-cons, drop-drop, take_all}
use borrow.Author.Tests.{lt-ltb, le-ltb}
use Rattle.scan.specs.Pieces.{opening, pieces, first_at, fields_of}

-- what stands from i on, by its first byte
pub at_cons : (s : List ℕ) (i : ℕ) → i < length s → drop i s ≡ get_or s i 0 ∷ drop (i + 1) s
at_cons s i h = rw (add-one, drop-cons s i 0)

-- ---- the first byte sep

pub first_le : (sep : ℕ) (s : List ℕ) → first_at sep s ≤ length s
unfolding first_at
first_le sep [] = zero-le
first_le sep (b ∷ t) = by_first (eqb b sep) (first_at sep t) (first_le sep t)
  where
    by_first : (z : Bool) (n : ℕ) → n ≤ length t → cond z 0 (suc n) ≤ suc (length t)
    by_first true n h = zero-le
    by_first false n h = suc-le-suc h

pub none_first : (s : List ℕ) → length s ≡ 0 → get_or s 0 0 ≡ 0
none_first [] e = refl
none_first (b ∷ t) e = absurd (omega arith)

-- the first byte sep, as `position` finds it
pub first_position : (sep : ℕ) (s : List ℕ) → unwrap_or (position (λ b. eqb b sep) s) (length s) ≡ first_at sep s
unfolding first_at
first_position sep s =
    let is : first_at sep s ≡ position_or_len (λ b. eqb b sep) s = is_position_or_len (first_at sep) _ refl (λ b t. ap (cond (eqb b sep) 0) (omega arith)) s in
    let within = first_le sep s in
    rw is (or_long _ _ (rw is at within))
  where
    or_long : (n m : ℕ) → n ≤ m → unwrap_or (cond (ltb n m) (Some n) None) m ≡ n
    or_long n m h = elim (dec_le m n) [
      | yes p ↦ rw (le-ltb n m p) (omega arith)
      | no p ↦ let q : n < m = omega (arith, p) in rw (lt-ltb n m q)
    ]

-- ---- up to the first byte sep, and after it

pieces-cut : (sep : ℕ) (last : List (List ℕ)) (s : List ℕ) → first_at sep s < length s → pieces sep last s ≡ take (first_at sep s) s ∷ pieces sep last (drop (suc (first_at sep s)) s)
unfolding first_at pieces opening
pieces-cut sep last [] h = absurd (not-suc-le-zero h)
pieces-cut sep last (b ∷ t) h = by_first (eqb b sep) (pieces-cut sep last t) h
  where
    by_first : (z : Bool) → (first_at sep t < length t → pieces sep last t ≡ take (first_at sep t) t ∷ pieces sep last (drop (suc (first_at sep t)) t))
        → cond z 0 (suc (first_at sep t)) < suc (length t)
        → cond z ([] ∷ pieces sep last t) (opening b (pieces sep last t))
        ≡ take (cond z 0 (suc (first_at sep t))) (b ∷ t) ∷ pieces sep last (drop (cond z 0 (suc (first_at sep t))) t)
    by_first true ih k = refl
    by_first false ih k = rw (ih (le_of_suc-le-suc k))

-- with no byte sep
pieces_whole : (sep : ℕ) (last : List (List ℕ)) (b : ℕ) (t : List ℕ) → length (b ∷ t) ≤ first_at sep (b ∷ t) → (last ≡ []) ⊎ (last ≡ [] ∷ []) → pieces sep last (b ∷ t) ≡ (b ∷ t) ∷ []
unfolding first_at pieces opening
pieces_whole sep last b [] h l = by_first (eqb b sep) h l
  where
    by_first : (z : Bool) → 1 ≤ cond z 0 1 → (last ≡ []) ⊎ (last ≡ [] ∷ []) → cond z ([] ∷ last) (opening b last) ≡ (b ∷ []) ∷ []
    by_first true k l = absurd (not-suc-le-zero k)
    by_first false k (inl e) = rw e
    by_first false k (inr e) = rw e
pieces_whole sep last b (c ∷ t) h l = by_first (eqb b sep) (λ k. pieces_whole sep last c t k l) h
  where
    by_first : (z : Bool) → (length (c ∷ t) ≤ first_at sep (c ∷ t) → pieces sep last (c ∷ t) ≡ (c ∷ t) ∷ [])
        → suc (length (c ∷ t)) ≤ cond z 0 (suc (first_at sep (c ∷ t)))
        → cond z ([] ∷ pieces sep last (c ∷ t)) (opening b (pieces sep last (c ∷ t))) ≡ (b ∷ c ∷ t) ∷ []
    by_first true ih k = absurd (not-suc-le-zero k)
    by_first false ih k = rw (ih (le_of_suc-le-suc k))

-- a text that is not empty, in pieces of which the last may lack its end: the first, and those after it
pub pieces_step : (sep : ℕ) (s : List ℕ) (e : ℕ) → e ≡ first_at sep s → 0 < length s → pieces sep [] s ≡ take e s ∷ pieces sep [] (drop (e + 1) s)
unfolding pieces
pieces_step sep [] e p h = absurd (not-suc-le-zero h)
pieces_step sep (b ∷ t) e p h =
    rw (p, add-one)
    (⊎_elim (λ q. whole (le_of_eq (sym q))) (λ k. pieces-cut sep [] (b ∷ t) k) (eq-or-lt_of_le (first_le sep (b ∷ t))))
  where
    whole : length (b ∷ t) ≤ first_at sep (b ∷ t) → pieces sep [] (b ∷ t) ≡ take (first_at sep (b ∷ t)) (b ∷ t) ∷ pieces sep [] (drop (suc (first_at sep (b ∷ t))) (b ∷ t))
    whole k =
        pieces_whole sep [] b t k (inl refl)
        ∙ sym (ap₂ (λ (l : List ℕ) (r : List ℕ). l ∷ pieces sep [] r) (take_all (first_at sep (b ∷ t)) (b ∷ t) k) (drop_of_length-le (b ∷ t) (le_trans k (le-suc _))))

pub pieces_none : (sep : ℕ) (s : List ℕ) → length s ≡ 0 → pieces sep [] s ≡ []
unfolding pieces
pieces_none sep [] h = refl
pieces_none sep (b ∷ t) h = absurd (omega arith)

pub pieces_first : (sep : ℕ) (s : List ℕ) → 0 < length s → pieces sep [] s ≡ take (first_at sep s) s ∷ pieces sep [] (drop (first_at sep s + 1) s)
pieces_first sep s h = pieces_step sep s (first_at sep s) refl h

-- how many pieces there are, and how long each is
pub pieces_few : (sep : ℕ) (s : List ℕ) → length (pieces sep [] s) ≤ length s
unfolding pieces opening
pieces_few sep [] = omega arith
pieces_few sep (b ∷ t) = by_first (eqb b sep) (pieces sep [] t) (pieces_few sep t)
  where
    by_first : (z : Bool) (ls : List (List ℕ)) → length ls ≤ length t → length (cond z ([] ∷ ls) (opening b ls)) ≤ suc (length t)
    by_first true ls h = omega arith
    by_first false [] h = omega arith
    by_first false (l ∷ ls) h = omega arith

pub piece_short : (sep : ℕ) (s : List ℕ) (i : ℕ) → length (get_or (pieces sep [] s) i []) ≤ length s
unfolding pieces opening
piece_short sep [] i = omega arith
piece_short sep (b ∷ t) i = by_first (eqb b sep) i (pieces sep [] t) (piece_short sep t)
  where
    by_first : (z : Bool) (i : ℕ) (ls : List (List ℕ)) → ((j : ℕ) → length (get_or ls j []) ≤ length t) → length (get_or (cond z ([] ∷ ls) (opening b ls)) i []) ≤ suc (length t)
    by_first true zero ls h = omega arith
    by_first true (suc i) ls h = omega (arith, h i)
    by_first false zero [] h = omega arith
    by_first false (suc i) [] h = omega arith
    by_first false zero (l ∷ ls) h = omega (arith, h 0)
    by_first false (suc i) (l ∷ ls) h = omega (arith, h (suc i))

-- the same from a position on
pub pieces_turn : (sep : ℕ) (s t : List ℕ) (at e : ℕ) → t ≡ drop at s → e ≡ first_at sep t → at < length s
    → pieces sep [] (drop at s) ≡ take e t ∷ pieces sep [] (drop (at + e + 1) s)
pieces_turn sep s t at e p q h =
    rw (p, pieces_step sep (drop at s) e (q ∙ ap (first_at sep) p) (simp length-drop (omega arith)), drop-drop (e + 1) at s, ← add_assoc at e 1)

pub pieces_end : (sep : ℕ) (s : List ℕ) (at : ℕ) → length s ≤ at → pieces sep [] (drop at s) ≡ []
unfolding pieces
pieces_end sep s at h = rw (drop_of_length-le s h)

-- the fields of a line: the first, and those after it; or one alone
pub fields_cut : (s : List ℕ) (e : ℕ) → e ≡ first_at 32 s → e < length s → fields_of s ≡ take e s ∷ fields_of (drop (e + 1) s)
fields_cut s e p h = rw (p, add-one) (pieces-cut 32 ([] ∷ []) s (rw p at h))

pub fields_one : (s : List ℕ) (e : ℕ) → e ≡ first_at 32 s → length s ≤ e → fields_of s ≡ take e s ∷ []
unfolding pieces
fields_one [] e p h = rw (take_all e [] h)
fields_one (b ∷ t) e p h = rw (take_all e (b ∷ t) h) (pieces_whole 32 ([] ∷ []) b t (rw p at h) (inr refl))

-- what is left of s after a bytes
pub rest_long : (s t : List ℕ) (a : ℕ) → t ≡ drop a s → length t ≡ length s - a
rest_long s t a e = rw (e, length-drop)
