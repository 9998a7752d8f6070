-- Laws of the fields of a line, as they are read from left to right.
use mathlib.Core.Path.{◌≡◌, refl, ap, ◌∙◌}
use mathlib.Core.Logic.{⊎_elim}
use mathlib.Core.List.{List, [], ◌∷◌}
use mathlib.Core.Bool.{cond}
use Prim.Native.Nat.{ℕ, ◌+◌, ◌≤◌, ◌<◌}
use native.Mathlib.Nat.{eq-or-lt_of_le}
use native.Mathlib.Omega.{arith}
use lib.Dec.{ltb}
use lib.ListN.{length, take, drop}
use lib.Seq.{length-take-le}
use borrow.Author.Tests.{lt-ltb, le-ltb}
use Rattle.std.specs.List.{between}
use Rattle.std.proofs.lemmas.Slice.{between_to_end}
use Rattle.std.specs.Prelude.{Option, Some, None, Result, Ok, Err}
use Rattle.scan.specs.Pieces.{first_at, fields_of}
use Rattle.scan.specs.Fields.{none, before, taken, unread, on_field, matched}
use Rattle.scan.specs.Held.{held_numbers, held_value, held_field, held_fields}
use Rattle.scan.specs.declared.holding.Numbers.{Numbers}
use Rattle.scan.specs.declared.holding.Value.{Value}
use Rattle.scan.specs.declared.holding.Value.TheVariants.{Word, Unsigned, Signed}
use Rattle.scan.specs.declared.fields.Kind.TheVariants.{Missing, Extra}
use Rattle.scan.specs.declared.fields.Fault.{Fault}
use Rattle.scan.proofs.PieceLaws.{first_le, fields_cut, fields_one}

-- fields are held each by itself
held-before : (v : Value) (ns : Numbers) → held_numbers (before v ns) ≡ before (held_value v) (held_numbers ns)
unfolding before held_value
held-before Word ns = refl
held-before (Unsigned v) ns = refl
held-before (Signed z) ns = refl

held_on : (f : Option Value) (c : ℕ) (later : Result Numbers Fault) → held_fields (on_field f c later) ≡ on_field (held_field f) c (held_fields later)
unfolding on_field held_field held_fields
held_on (Some v) c (Ok ns) = ap Ok (held-before v ns)
held_on (Some v) c (Err f) = refl
held_on None c later = refl

-- ---- one field of a line

-- the fields after the first, which ends at e
abbrev pub later : List ℕ → ℕ → List (List ℕ)
later s e = cond (ltb e (length s)) (fields_of (drop (e + 1) s)) []

pub fields_first : (s : List ℕ) (e : ℕ) → e ≡ first_at 32 s → fields_of s ≡ take e s ∷ later s e
fields_first s e p = ⊎_elim one more (eq-or-lt_of_le (first_le 32 s))
  where
    one : first_at 32 s ≡ length s → fields_of s ≡ take e s ∷ later s e
    one q = let h : length s ≤ e = omega arith in rw (le-ltb e (length s) h) (fields_one s e p h)

    more : first_at 32 s < length s → fields_of s ≡ take e s ∷ later s e
    more q = let h : e < length s = omega arith in rw (lt-ltb e (length s) h) (fields_cut s e p h)

-- what the fields hold, by the first of them, f, which ends at d in the form and at e in the line
pub fields_step : (form s : List ℕ) (c d e : ℕ) (f : Option Value) → d ≡ first_at 32 form → e ≡ first_at 32 s → f ≡ held_field (taken (take d form) (take e s))
    → held_fields (matched (fields_of form) c (fields_of s)) ≡ on_field f c (held_fields (matched (later form d) (c + (e + 1)) (later s e)))
unfolding matched
fields_step form s c d e f p q r =
    let few = first_le 32 s in
    let long : length (take e s) ≡ e = length-take-le e s (omega arith) in
    rw (fields_first form d p, fields_first s e q, r) (held_on (taken (take d form) (take e s)) c _ ∙ rw long)

-- the fields after the first, by whether the form and the line have any
module _ (form s : List ℕ) (c d e : ℕ) where
  pub fields_end : length form ≤ d → length s ≤ e → matched (later form d) (c + (e + 1)) (later s e) ≡ Ok none
  unfolding matched
  fields_end h k = rw (le-ltb _ _ h, le-ltb _ _ k)

  pub fields_extra : length form ≤ d → e < length s → matched (later form d) (c + (e + 1)) (later s e) ≡ unread Extra (c + e + 1)
  unfolding matched
  fields_extra h k =
      let at : c + (e + 1) ≡ c + e + 1 = omega arith in
      rw (le-ltb _ _ h, lt-ltb _ _ k, fields_first (drop (e + 1) s) (first_at 32 (drop (e + 1) s)) refl, at)

  pub fields_missing : d < length form → length s ≤ e → matched (later form d) (c + (e + 1)) (later s e) ≡ unread Missing (c + e)
  unfolding matched
  fields_missing h k = rw (lt-ltb _ _ h, le-ltb _ _ k, fields_first (drop (d + 1) form) (first_at 32 (drop (d + 1) form)) refl) (ap (unread Missing) (omega arith))

  pub fields_more : (r : Result Numbers Fault) → r ≡ held_fields (matched (fields_of (between (d + 1) (length form) form)) (c + e + 1) (fields_of (between (e + 1) (length s) s)))
      → d < length form → e < length s → held_fields (matched (later form d) (c + (e + 1)) (later s e)) ≡ r
  fields_more r f h k =
      let at : c + e + 1 ≡ c + (e + 1) = omega arith in
      rw (lt-ltb _ _ h, lt-ltb _ _ k, f, between_to_end form (d + 1) (length form) (omega arith), between_to_end s (e + 1) (length s) (omega arith), at)
