-- Laws of one field of a line, and of how its number is held.
use Rattle.std.specs.Prelude.{Option, Some, None, option_map, bytes_eq}
use Rattle.std.specs.Bool.{then_some}
use mathlib.Core.Path.{◌≡◌, refl, ap}
use mathlib.Core.List.{List}
use mathlib.Core.Bool.{Bool, true, false, cond, ◌&&◌}
use Prim.Native.Nat.{ℕ, ◌≤◌, ◌<◌}
use native.Mathlib.Omega.{arith}
use lib.Dec.{leb}
use lib.IntN.{ℤ, pos, negsuc}
use lib.ListN.{get_or}
use borrow.Author.Tests.{le-leb, lt-leb}
use Rattle.std.proofs.lemmas.Bool.Decides.{nat_tests}
use Rattle.scan.specs.Numbers.{natural_of, integer_of}
use Rattle.scan.specs.Fields.{none, taken}
use Rattle.scan.specs.Held.{held, held_z, held_natural, held_integer, held_value, held_field}
use Rattle.scan.specs.declared.holding.Numbers.{Numbers}
use Rattle.scan.specs.declared.holding.Value.TheVariants.{Word, Unsigned, Signed}

held_unsigned : (n : Option ℕ) → held_field (option_map Unsigned n) ≡ option_map (λ v. Unsigned (held v)) (held_natural n)
unfolding held_natural held_field held_value held
held_unsigned (Some v) = ap (λ (x : ℕ). Some (Unsigned x)) (omega arith)
held_unsigned None = refl

held_signed : (n : Option ℤ) → held_field (option_map Signed n) ≡ option_map (λ z. Signed (held_z z)) (held_integer n)
unfolding held_integer held_field held_value held_z
held_signed (Some (pos v)) = ap (λ (x : ℕ). Some (Signed (pos x))) (omega arith)
held_signed (Some (negsuc v)) = ap (λ (x : ℕ). Some (Signed (negsuc x))) (omega arith)
held_signed None = refl

-- no numbers, as `default` makes them
pub none_default : (ns : Numbers) → (ns.first ≡ 0) × ((ns.second ≡ 0) × ((ns.third ≡ 0) × ((ns.x ≡ pos 0) × (ns.y ≡ pos 0)))) → ns ≡ none
none_default ns e =
    let is : record { first = ns.first; second = ns.second; third = ns.third; x = ns.x; y = ns.y } ≡ none = rw (e.0, e.1.0, e.1.1.0, e.1.1.1.0, e.1.1.1.1) in
    is

-- ---- a field, by the first byte of the form's

module _ (form s : List ℕ) where
  pub field_signed : 88 ≤ get_or form 0 0 → get_or form 0 0 ≤ 90 → held_field (taken form s) ≡ option_map (λ z. Signed (held_z z)) (held_integer (integer_of s))
  unfolding taken
  field_signed h k =
      let l : 65 ≤ get_or form 0 0 = omega arith in
      rw (le-leb 65 _ l, le-leb _ 90 k, le-leb 88 _ h) (held_signed (integer_of s))

  pub field_unsigned : 65 ≤ get_or form 0 0 → get_or form 0 0 < 88 → held_field (taken form s) ≡ option_map (λ v. Unsigned (held v)) (held_natural (natural_of s))
  unfolding taken
  field_unsigned h k =
      let l : get_or form 0 0 ≤ 90 = omega arith in
      rw (le-leb 65 _ h, le-leb _ 90 l, lt-leb 88 _ k) (held_unsigned (natural_of s))

  pub field_word : (65 ≤ get_or form 0 0 → get_or form 0 0 ≤ 90 → ⊥) → held_field (taken form s) ≡ then_some (bytes_eq s form) Word
  unfolding taken held_field held_value
  field_word h =
      let none : leb 65 (get_or form 0 0) && leb (get_or form 0 0) 90 ≡ false = grind (arith, nat_tests) in
      rw none (by_test (bytes_eq s form))
    where
      by_test : (z : Bool) → held_field (cond z (Some Word) None) ≡ then_some z Word
      by_test true = refl
      by_test false = refl
