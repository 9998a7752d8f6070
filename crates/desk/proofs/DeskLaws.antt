-- Rows that are given back as they were leave the stores as they were.
use Prim.Native.Nat.{ℕ, zero, suc, ◌+◌, ◌≤◌}
use mathlib.Core.Path.{◌≡◌, refl, sym, ap, ◌∙◌}
use mathlib.Core.List.{List, [], ◌∷◌, ◌++◌}
use native.Mathlib.Omega.{arith}
use native.Mathlib.Nat.{le_of_suc-le-suc, not-suc-le-zero}
use lib.ListN.{length, take, drop, take-append-drop}
use lib.Seq.{drop-drop, length-take-le, take-append_seam}
use Rattle.commands.specs.declared.rows.Stretch.{Stretch}
use Rattle.lending.specs.Stores.{lent_at, part_at, put_at}
use Rattle.lending.specs.declared.rows.Lent.{Lent}

whole : {A : Type 0} (n : ℕ) (l : List A) → take n l ++ drop (length (take n l)) l ≡ l
whole zero l = refl
whole (suc n) [] = refl
whole {A} (suc n) (x ∷ l) = ap (λ (r : List A). x ∷ r) (whole n l)

pub put_same : {A : Type 0} (lent : Lent) (s : Stretch) (store : List A) → put_at s (part_at lent s store) store ≡ store
unfolding part_at put_at
put_same lent s store =
    let part = take (lent_at lent s) (drop s.start store) in
    rw (← drop-drop (length part) s.start store, whole (lent_at lent s) (drop s.start store)) (take-append-drop s.start store)

drop-none : {A : Type 0} (n : ℕ) → drop {A = A} n [] ≡ []
drop-none zero = refl
drop-none (suc n) = refl

-- past values that are put into the first places, a list is as it was
past_first : {A : Type 0} (b : ℕ) (values store : List A) → length values ≤ b → drop b (values ++ drop (length values) store) ≡ drop b store
past_first b [] store h = refl
past_first zero (v ∷ values) store h = absurd (not-suc-le-zero h)
past_first {A} (suc b) (v ∷ values) [] h =
    let e = past_first b values [] (le_of_suc-le-suc h) in
    rw (drop-none {A = A} (length values), drop-none {A = A} b) at e
past_first (suc b) (v ∷ values) (x ∷ store) h = past_first b values store (le_of_suc-le-suc h)

past : {A : Type 0} (a b end : ℕ) (values store : List A) → end ≡ a + length values → end ≤ b → drop b (take a store ++ (values ++ drop end store)) ≡ drop b store
past zero b end values store e h =
    let same : end ≡ length values = omega arith in
    rw same (past_first b values store (omega arith))
past {A} (suc a) b end values [] e h =
    let same = past_first b values [] (omega arith) in
    rw (drop-none {A = A} end) (rw (drop-none {A = A} (length values)) at same)
past (suc a) zero end values (x ∷ store) e h = let z : 1 ≤ 0 = omega arith in absurd (not-suc-le-zero z)
past (suc a) (suc b) zero values (x ∷ store) e h = let z : 1 ≤ 0 = omega arith in absurd (not-suc-le-zero z)
past (suc a) (suc b) (suc end) values (x ∷ store) e h = past a b end values store (omega arith) (omega arith)

-- what is put before a stretch leaves its part
pub part_past : {A : Type 0} (lent : Lent) (s later : Stretch) (values store : List A) → s.start + length values ≤ later.start → part_at lent later (put_at s values store) ≡ part_at lent later store
unfolding part_at put_at
part_past lent s later values store h = ap (take (lent_at lent later)) (past s.start later.start (s.start + length values) values store refl h)

-- a copy of a row's lent places, with what was left in them
pub copied_back : {A : Type 0} (k : ℕ) (held values : List A) → k ≤ length held → length values ≡ length (take k held) → take k (values ++ drop k held) ≡ values
copied_back k held values h e =
    let same : k ≡ length values = sym (e ∙ length-take-le k held h) in
    ap (λ (n : ℕ). take n (values ++ drop k held)) same ∙ take-append_seam values (drop k held)
