-- Pieces that are put together are found again, and what was cut into pieces is put together again.
use mathlib.Core.Path.{◌≡◌, refl, sym, ap, ◌∙◌}
use mathlib.Core.List.{List, [], ◌∷◌, ◌++◌, map, append-nil}
use mathlib.Core.Bool.{Bool, true, false, cond}
use Prim.Native.Nat.{ℕ, zero, suc, ◌+◌, ◌-◌, ◌<◌}
use native.Mathlib.Omega.{arith}
use native.Mathlib.Decide.{dec_le}
use native.Mathlib.Numerals.{add-one}
use lib.Dec.{eqb}
use lib.ListN.{length, get_or, length-append}
use borrow.Author.Tests.{eq-eqb, ne_eqb, eqb-true}
use Rattle.scan.specs.Pieces.{opening, pieces, lines_of, fields_of}
use Rattle.scan.specs.Written.{spread, joined, closed, listed, last_byte}

-- a piece without the byte sep
pub record Without (sep : ℕ) (s : List ℕ) : Type 0 where
  pub none : (i : ℕ) → i < length s → get_or s i 0 ≡ sep → ⊥

pub without_empty : (sep : ℕ) → Without sep []
without_empty sep = record { none = λ i h e. omega arith }

pub without_more : (sep b : ℕ) (s : List ℕ) → (b ≡ sep → ⊥) → Without sep s → Without sep (b ∷ s)
without_more sep b s h w = record { none = λ i k e. by_place i k e }
  where
    by_place : (i : ℕ) → i < length (b ∷ s) → get_or (b ∷ s) i 0 ≡ sep → ⊥
    by_place zero k e = h e
    by_place (suc i) k e = w.none i (omega arith) e

pub without_rest : (sep b : ℕ) (s : List ℕ) → Without sep (b ∷ s) → Without sep s
without_rest sep b s w = record { none = λ i h e. w.none (suc i) (omega arith) e }

pub without_both : (sep : ℕ) (a b : List ℕ) → Without sep a → Without sep b → Without sep (a ++ b)
without_both sep [] b v w = w
without_both sep (c ∷ a) b v w = without_more sep c (a ++ b) (v.none 0 (omega arith)) (without_both sep a b (without_rest sep c a v) w)

-- pieces of which none has the byte sep
pub data Clear (sep : ℕ) : List (List ℕ) → Type 0 where
  empty : Clear sep []
  more : {l : List ℕ} {ls : List (List ℕ)} → Without sep l → Clear sep ls → Clear sep (l ∷ ls)

-- ---- pieces that were put together

-- a piece before what is cut
pub piece_before : (sep : ℕ) (last : List (List ℕ)) (f s l : List ℕ) (ls : List (List ℕ)) → Without sep f → pieces sep last s ≡ l ∷ ls → pieces sep last (f ++ s) ≡ (f ++ l) ∷ ls
unfolding pieces opening
piece_before sep last [] s l ls w e = e
piece_before sep last (b ∷ f) s l ls w e = rw (ne_eqb b sep (w.none 0 (omega arith)), piece_before sep last f s l ls (without_rest sep b f w) e)

pub fields_joined : (f : List ℕ) (fs : List (List ℕ)) → Without 32 f → Clear 32 fs → fields_of (f ++ spread fs) ≡ f ∷ fs
unfolding pieces spread
fields_joined f [] w empty = piece_before 32 ([] ∷ []) f [] [] [] w refl ∙ ap (λ (l : List ℕ). l ∷ []) (append-nil f)
fields_joined f (g ∷ gs) w (more v c) =
    piece_before 32 ([] ∷ []) f (32 ∷ g ++ spread gs) [] (g ∷ gs) w (ap (λ (ls : List (List ℕ)). [] ∷ ls) (fields_joined g gs v c))
    ∙ ap (λ (l : List ℕ). l ∷ g ∷ gs) (append-nil f)

pub lines_closed : (ls : List (List ℕ)) → Clear 10 ls → lines_of (closed ls) ≡ ls
unfolding pieces closed
lines_closed [] empty = refl
lines_closed (l ∷ ls) (more w c) =
    piece_before 10 [] l (10 ∷ closed ls) [] ls w (ap (λ (ls : List (List ℕ)). [] ∷ ls) (lines_closed ls c))
    ∙ ap (λ (t : List ℕ). t ∷ ls) (append-nil l)

-- fields without a byte make a line without it, if it is no space
pub without_spread : (sep : ℕ) (fs : List (List ℕ)) → (32 ≡ sep → ⊥) → Clear sep fs → Without sep (spread fs)
unfolding spread
without_spread sep [] h empty = without_empty sep
without_spread sep (f ∷ fs) h (more w c) = without_more sep 32 (f ++ spread fs) h (without_both sep f (spread fs) w (without_spread sep fs h c))

-- ---- what was cut into pieces

-- something is left of something
pub pieces_some : (sep : ℕ) (last : List (List ℕ)) (b : ℕ) (t : List ℕ) → pieces sep last (b ∷ t) ≡ [] → ⊥
unfolding pieces opening
pieces_some sep last b t e = by_test (eqb b sep) (pieces sep last t) e
  where
    open_some : (ls : List (List ℕ)) → opening b ls ≡ [] → ⊥
    open_some [] e = cc
    open_some (l ∷ ls) e = cc

    by_test : (z : Bool) (ls : List (List ℕ)) → cond z ([] ∷ ls) (opening b ls) ≡ [] → ⊥
    by_test true ls e = cc
    by_test false ls e = open_some ls e

fields_some : (s : List ℕ) → fields_of s ≡ [] → ⊥
unfolding pieces
fields_some [] e = cc
fields_some (b ∷ t) e = pieces_some 32 ([] ∷ []) b t e

joined-opening : (b : ℕ) (ls : List (List ℕ)) → joined (opening b ls) ≡ b ∷ joined ls
unfolding joined opening spread
joined-opening b [] = refl
joined-opening b (l ∷ ls) = refl

joined_space : (ls : List (List ℕ)) → (ls ≡ [] → ⊥) → joined ([] ∷ ls) ≡ 32 ∷ joined ls
unfolding joined spread
joined_space [] h = absurd (h refl)
joined_space (l ∷ ls) h = refl

pub joined_fields : (s : List ℕ) → joined (fields_of s) ≡ s
unfolding pieces joined spread
joined_fields [] = refl
joined_fields (b ∷ t) = by_test (eqb b 32) refl (joined_fields t)
  where
    by_test : (z : Bool) → eqb b 32 ≡ z → joined (fields_of t) ≡ t → joined (cond z ([] ∷ fields_of t) (opening b (fields_of t))) ≡ b ∷ t
    by_test true e ih = let s : b ≡ 32 = eqb-true b 32 e in joined_space (fields_of t) (fields_some t) ∙ rw (s, ih)
    by_test false e ih = joined-opening b (fields_of t) ∙ rw ih

closed-opening : (b : ℕ) (ls : List (List ℕ)) → (ls ≡ [] → ⊥) → closed (opening b ls) ≡ b ∷ closed ls
unfolding closed opening
closed-opening b [] h = absurd (h refl)
closed-opening b (l ∷ ls) h = refl

last_on : (b c : ℕ) (t : List ℕ) → last_byte (b ∷ c ∷ t) ≡ last_byte (c ∷ t)
last_on b c t =
    let p : suc (suc (length t)) - 1 ≡ suc (length t) = omega arith in
    let q : suc (length t) - 1 ≡ length t = omega arith in
    rw (p, q)

-- a text that ends in byte 10 is its lines, with byte 10 after each
pub closed_lines : (s : List ℕ) → last_byte s ≡ 10 → closed (lines_of s) ≡ s
unfolding pieces closed opening
closed_lines [] e = absurd (omega arith)
closed_lines (b ∷ []) e = rw (eq-eqb b 10 e, e)
closed_lines (b ∷ c ∷ t) e = by_test (eqb b 10) refl (closed_lines (c ∷ t) (sym (last_on b c t) ∙ e))
  where
    by_test : (z : Bool) → eqb b 10 ≡ z → closed (lines_of (c ∷ t)) ≡ c ∷ t → closed (cond z ([] ∷ lines_of (c ∷ t)) (opening b (lines_of (c ∷ t)))) ≡ b ∷ c ∷ t
    by_test true k ih = let s : b ≡ 10 = eqb-true b 10 k in rw s (ap (λ (l : List ℕ). 10 ∷ l) ih)
    by_test false k ih = closed-opening b (lines_of (c ∷ t)) (pieces_some 10 [] c t) ∙ ap (λ (l : List ℕ). b ∷ l) ih

-- and a text of lines ends in it
last_both : (a : List ℕ) (b : ℕ) (s : List ℕ) → last_byte (a ++ b ∷ s) ≡ last_byte (b ∷ s)
last_both [] b s = refl
last_both (c ∷ []) b s = last_on c b s
last_both (c ∷ d ∷ a) b s = last_on c d (a ++ b ∷ s) ∙ last_both (d ∷ a) b s

pub last_closed : (l : List ℕ) (ls : List (List ℕ)) → last_byte (closed (l ∷ ls)) ≡ 10
unfolding closed
last_closed l [] = last_both l 10 []
last_closed l (k ∷ ls) = last_both l 10 (closed (k ∷ ls)) ∙ by_some (closed (k ∷ ls)) (last_closed k ls)
  where
    by_some : (s : List ℕ) → last_byte s ≡ 10 → last_byte (10 ∷ s) ≡ 10
    by_some [] e = refl
    by_some (c ∷ t) e = last_on 10 c t ∙ e

-- ---- what f says of 1..m

module _ {A : Type 0} (f : ℕ → A) where
  pub listed_more : (m : ℕ) → listed f (m + 1) ≡ listed f m ++ (f (m + 1) ∷ [])
  unfolding listed
  listed_more m = rw (add-one m)

  pub listed_long : (m : ℕ) → length (listed f m) ≡ m
  unfolding listed
  listed_long zero = refl
  listed_long (suc m) = length-append (listed f m) (f (suc m) ∷ []) ∙ (let e = listed_long m in omega arith)

  pub listed_at : (m i : ℕ) (d : A) → i < m → get_or (listed f m) i d ≡ f (i + 1)
  unfolding listed
  listed_at zero i d h = absurd (omega arith)
  listed_at (suc m) i d h = elim (dec_le m i) [
    | yes p ↦
        let e : i ≡ length (listed f m) = omega (arith, listed_long m) in
        let g : suc m ≡ i + 1 = omega arith in
        rw (g, e) (at_end (listed f m) (f (length (listed f m) + 1)) d)
    | no p ↦ let q : i < length (listed f m) = omega (arith, listed_long m, p) in at_front (listed f m) (f (suc m) ∷ []) i d q ∙ listed_at m i d (omega (arith, p))
  ]
    where
      at_front : (a b : List A) (i : ℕ) (d : A) → i < length a → get_or (a ++ b) i d ≡ get_or a i d
      at_front [] b i d h = absurd (omega arith)
      at_front (c ∷ a) b zero d h = refl
      at_front (c ∷ a) b (suc i) d h = at_front a b i d (omega arith)

      at_end : (a : List A) (c d : A) → get_or (a ++ (c ∷ [])) (length a) d ≡ c
      at_end [] c d = refl
      at_end (b ∷ a) c d = at_end a c d

pub map_both : {A B : Type 0} (f : A → B) (a b : List A) → map f (a ++ b) ≡ map f a ++ map f b
map_both f [] b = refl
map_both f (c ∷ a) b = rw (map_both f a b)

-- lists of the same places are the same
pub map-listed : {A B : Type 0} (g : A → B) (f : ℕ → A) (h : ℕ → B) → ((i : ℕ) → g (f i) ≡ h i) → (m : ℕ) → map g (listed f m) ≡ listed h m
unfolding listed
map-listed g f h e zero = refl
map-listed g f h e (suc m) = map_both g (listed f m) (f (suc m) ∷ []) ∙ rw (map-listed g f h e m, e (suc m))

pub listed-map : {A B : Type 0} (f : A → B) (l : List A) (d : A) (h : ℕ → B) → ((i : ℕ) → i < length l → f (get_or l i d) ≡ h (i + 1)) → listed h (length l) ≡ map f l
listed-map {A} {B} f l d h e = by_places (listed h (length l)) l (λ i. i) (listed_long h (length l)) (λ i k. listed_at h (length l) i (f d) k ∙ sym (e i k))
  where
    by_places : (a : List B) (l : List A) (u : ℕ → ℕ) → length a ≡ length l → ((i : ℕ) → i < length l → get_or a i (f d) ≡ f (get_or l i d)) → a ≡ map f l
    by_places [] [] u n h = refl
    by_places [] (c ∷ l) u n h = absurd (omega arith)
    by_places (b ∷ a) [] u n h = absurd (omega arith)
    by_places (b ∷ a) (c ∷ l) u n h =
        let first : b ≡ f c = h 0 (omega arith) in
        rw (first, by_places a l u (omega arith) (λ i k. h (suc i) (omega arith)))
