-- The panel's loop: module after module is taken from the mask and put into the row.
use mathlib.Core.Path.{◌≡◌, refl, sym, ap, ap₂, subst, ◌∙◌}
use mathlib.Core.List.{List, [], ◌∷◌, ◌++◌, append-nil}
use Prim.Native.Nat.{ℕ, suc, ◌+◌, ◌-◌, ◌*◌, ◌%◌, ◌^◌, ◌≤◌, ◌<◌}
use native.Mathlib.Omega.{arith}
use native.Mathlib.Numerals.{add-one}
use lib.ListN.{length, take, drop, set, length-append, length-set, take-append-drop}
use lib.Seq.{length-take-le, append_snoc, take-suc-set, drop-set-lt, drop-drop}
use lib.Count.{ones, count_trailing_zeros}
use Rattle.walks.proofs.CountLaws.{count_most}
use Rattle.rules.specs.Paper.{accepted}
use Rattle.masks.specs.Panel.{modules_of}
use Rattle.masks.specs.Says.{LampsSays, lit}
use Rattle.masks.proofs.Bits.{one_shifted}
use Rattle.masks.proofs.PanelLaws.{modules_count}
use Rattle.masks.proofs.Counting.{no_modules, modules_length, trailing_low, trailing_within, modules_step}

-- the modules of the rest are still to be put, from place `at` on
pub record Lighting (mask : ℕ) (before row : List ℕ) (rest at : ℕ) : Type 0 where
  pub room : 32 ≤ length before
  pub same_length : length row ≡ length before
  pub small : rest < 2 ^ 32
  pub high : at ≤ 32
  pub done : take at row ++ modules_of rest ≡ modules_of mask
  pub kept : drop at row ≡ drop at before

pub lighting_start : (mask : ℕ) (row : List ℕ) → 32 ≤ length row → mask < 2 ^ 32 → Lighting mask row row mask 0
lighting_start mask row room small = record { room = room; same_length = refl; small = small; high = omega arith; done = refl; kept = refl }

-- the next number is put behind those that stand there
moved : (row later : List ℕ) (at t : ℕ) → at < length row → {list : List ℕ} → suc t ∷ later ≡ list → take (at + 1) (set row at (t + 1)) ++ later ≡ take at row ++ list
moved row later at t h e =
    ap (λ (i : ℕ). take i (set row at (t + 1)) ++ later) (add-one at) ∙ ap (λ (x : List ℕ). x ++ later) (take-suc-set row at (t + 1) h)
    ∙ append_snoc (take at row) (t + 1) later ∙ ap (λ (x : ℕ). take at row ++ x ∷ later) (add-one t) ∙ ap (λ (x : List ℕ). take at row ++ x) e

module _ {mask : ℕ} {before row : List ℕ} {rest at : ℕ} (l : Lighting mask before row rest at) where
  put : length (take at row) ≡ at
  put = length-take-le at row (omega (arith, l.room, l.same_length, l.high))

  module _ (some : 0 < rest) where
    pub lighting_place : at < 32
    lighting_place =
        omega (arith, count_most (modules_count mask), ap length l.done, length-append (take at row) (modules_of rest), put, ap length (modules_step rest some l.small))

    inside : at < length row
    inside = omega (arith, lighting_place, l.room, l.same_length)

    pub lighting_low : count_trailing_zeros 32 rest < 32
    lighting_low = trailing_low rest some l.small

    lowest : (1 * 2 ^ count_trailing_zeros 32 rest) % 2 ^ 32 ≡ 2 ^ count_trailing_zeros 32 rest
    lowest = one_shifted (count_trailing_zeros 32 rest) lighting_low

    pub lighting_within : (1 * 2 ^ count_trailing_zeros 32 rest) % 2 ^ 32 ≤ rest
    lighting_within = omega (arith, lowest, trailing_within rest some l.small)

    pub lighting_next : Lighting mask before (set row at (count_trailing_zeros 32 rest + 1)) (rest - (1 * 2 ^ count_trailing_zeros 32 rest) % 2 ^ 32) (at + 1)
    lighting_next =
        let t = count_trailing_zeros 32 rest in
        let later = rest - (1 * 2 ^ t) % 2 ^ 32 in
        let step : modules_of rest ≡ suc t ∷ modules_of later = modules_step rest some l.small ∙ ap (λ (x : ℕ). suc t ∷ modules_of (rest - x)) (sym lowest) in
        record {
          room = l.room;
          same_length = length-set row at (t + 1) ∙ l.same_length;
          small = omega (arith, l.small);
          high = omega (arith, lighting_place);
          done = moved row (modules_of later) at t inside (sym step) ∙ l.done;
          kept = drop-set-lt (at + 1) row at (t + 1) (omega arith) ∙ sym (drop-drop 1 at row) ∙ ap (drop 1) l.kept ∙ drop-drop 1 at before;
        }

  pub lighting_over : mask < 2 ^ 32 → rest ≤ 0 → LampsSays mask before (accepted (ones mask ∷ [])) row
  lighting_over small none =
      let M = modules_of mask in
      let none_left : [] ≡ modules_of rest = let e : 0 ≡ rest = omega arith in sym (no_modules 32 1) ∙ ap modules_of e in
      let all : take at row ≡ M = sym (append-nil (take at row)) ∙ ap (λ (x : List ℕ). take at row ++ x) none_left ∙ l.done in
      let same : take at row ++ drop at row ≡ M ++ drop at before = ap₂ (λ (x y : List ℕ). x ++ y) all l.kept in
      let count : at ≡ length M = sym put ∙ ap length all in
      let after : M ++ drop (length M) before ≡ row = ap (λ (i : ℕ). M ++ drop i before) (sym count) ∙ sym same ∙ take-append-drop at row in
      subst (LampsSays mask before (accepted (ones mask ∷ []))) after
      (subst (λ (c : ℕ). LampsSays mask before (accepted (c ∷ [])) (M ++ drop (length M) before)) (modules_length mask small) (lit l.room))
