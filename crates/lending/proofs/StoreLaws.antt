-- Laws of rows that are filled from the first place on, with numbers of any kind.
use Rattle.std.proofs.Common.{◌≡◌, refl, sym, ap, ap₂, ◌∙◌, ℕ, ◌+◌, ◌≤◌, ◌<◌, List, [], ◌∷◌, ◌++◌, map, length, take, drop, set, replicate, Result, Ok, Err, append-nil, append_assoc, arith}
use Rattle.std.proofs.lemmas.List.{take-append-drop, take_more_set, drop-set-lt}
use lib.ListN.{length-set, length-map}
use lib.Seq.{drop-drop, drop-length, take-length}
use Rattle.commands.specs.Commands.{Judged, on_ok, value_judged, values_judged}
use Rattle.commands.specs.declared.Fault.{Fault}
use Rattle.commands.specs.declared.rows.Kind.{Kind}
use Rattle.lending.specs.Stores.{stored}

-- ---- the same value in every place

-- what holds where the first i places are v
pub record Clearing {A : Type 0} (v : A) (old new : List A) (i : ℕ) : Type 0 where
  pub below : i ≤ length old
  pub filled : new ≡ replicate i v ++ drop i old
  pub long : length new ≡ length old

pub clear_end : {A : Type 0} (v : A) (old new : List A) (i : ℕ) → Clearing v old new i → length new ≤ i → new ≡ replicate (length old) v
clear_end v old new i g h = let e : i ≡ length old = omega (arith, g.below, g.long) in rw (g.filled, e, drop-length old) (append-nil (replicate (length old) v))

-- ---- the values of another row

-- what holds where the first i values are copied
pub record Copying {A : Type 0} (values old new : List A) (i : ℕ) : Type 0 where
  pub below : i ≤ length values
  pub filled : new ≡ take i values ++ drop i old
  pub long : length new ≡ length old

pub copy_start : {A : Type 0} (values old : List A) → Copying values old old 0
copy_start values old = record { below = omega arith; filled = refl; long = refl }

pub copy_end : {A : Type 0} (values old new : List A) (i : ℕ) → Copying values old new i → length values ≤ i → new ≡ stored values old
copy_end values old new i g h = let e : i ≡ length values = omega (arith, g.below) in rw (g.filled, e, take-length values)

-- ---- a number for each word of a text

-- what is judged as a number is one
pub judged_ok : {A : Type 0} (n : Result A Fault) (value : A) → ((v : A) → n ≡ Ok v → v ≡ value) → on_ok {B = Unit {0}} n (λ _. Ok (tt {0})) ≡ Ok (tt {0}) → n ≡ Ok value
judged_ok (Ok v) value same h = ap Ok (same v refl)
judged_ok (Err fault) value same h = cc

-- the words of a text that is judged
judged_first : (j k : Judged) → on_ok j (λ _. k) ≡ Ok tt → (j ≡ Ok tt) × (k ≡ Ok tt)
judged_first (Ok tt) k h = (refl, h)
judged_first (Err fault) k h = cc

-- what holds where k numbers are stored, and the words `ahead` are still to come
pub record Storing {A : Type 0} (kind : Kind) (value : List ℕ → A) (all ahead : List (List ℕ)) (old new : List A) (start k : ℕ) : Type 0 where
  pub count : k + length ahead ≡ length all
  pub judged : values_judged kind ahead ≡ Ok tt
  pub filled : take (start + k) new ++ map value ahead ≡ take start old ++ map value all
  pub rest : drop (start + k) new ≡ drop (start + k) old
  pub long : length new ≡ length old

module _ {A : Type 0} (kind : Kind) (value : List ℕ → A) (all : List (List ℕ)) (old : List A) (start : ℕ) (room : start + length all ≤ length old) where
  pub storing_start : values_judged kind all ≡ Ok tt → Storing kind value all all old old start 0
  storing_start h = let e : start + 0 ≡ start = omega arith in record { count = omega arith; judged = h; filled = rw e; rest = refl; long = refl }

  module _ (ahead : List (List ℕ)) (new : List A) (k : ℕ) (g : Storing kind value all ahead old new start k) where
    -- a word more
    pub word_judged : (w : List ℕ) (more : List (List ℕ)) → ahead ≡ w ∷ more → value_judged kind w ≡ Ok tt
    unfolding values_judged
    word_judged w more e = (judged_first _ _ (sym (ap (values_judged kind) e) ∙ g.judged)).0

    pub word_room : (w : List ℕ) (more : List (List ℕ)) → ahead ≡ w ∷ more → start + k < length new
    word_room w more e = let n = ap length e in omega (arith, g.count, g.long, room)

    pub storing_more : (w : List ℕ) (more : List (List ℕ)) → ahead ≡ w ∷ more → Storing kind value all more old (set new (start + k) (value w)) start (k + 1)
    unfolding values_judged
    storing_more w more e =
        let n = ap length e in
        let h = word_room w more e in
        let one : start + (k + 1) ≡ start + k + 1 = omega arith in
        record {
          count = omega (arith, g.count);
          judged = (judged_first _ _ (sym (ap (values_judged kind) e) ∙ g.judged)).1;
          filled =
              rw (one, take_more_set new (start + k) (value w) h, append_assoc)
              (ap (λ ws. take (start + k) new ++ map value ws) (sym e) ∙ g.filled);
          rest =
              rw (one, drop-set-lt (start + k + 1) new (start + k) (value w) (omega arith), sym (drop-drop 1 (start + k) new), sym (drop-drop 1 (start + k) old), g.rest);
          long = length-set new (start + k) (value w) ∙ g.long;
        }

    -- no word is left
    pub storing_end : ahead ≡ [] → (k ≡ length all) × (new ≡ take start old ++ (map value all ++ drop (start + length (map value all)) old))
    storing_end e =
        let n = ap length e in
        let same : k ≡ length all = omega (arith, g.count) in
        let over : start + k ≡ start + length (map value all) = omega (arith, length-map all value, same) in
        let front : take (start + k) new ≡ take start old ++ map value all = sym (append-nil (take (start + k) new)) ∙ ap (λ ws. take (start + k) new ++ map value ws) (sym e) ∙ g.filled in
        let back : drop (start + k) new ≡ drop (start + length (map value all)) old = g.rest ∙ ap (λ i. drop i old) over in
        (same, sym (take-append-drop (start + k) new) ∙ ap₂ ◌++◌ front back ∙ append_assoc (take start old) (map value all) (drop (start + length (map value all)) old))
