-- Laws of the lines of a format.
use mathlib.Core.Path.{◌≡◌, refl, sym}
use mathlib.Core.List.{List}
use mathlib.Core.Bool.{true, false}
use Prim.Native.Nat.{ℕ}
use lib.Dec.{eqb}
use lib.ListN.{length}
use Rattle.std.specs.Prelude.{Result, Ok, Err}
use Rattle.scan.specs.Pieces.{first_field, same_bytes, fields_of}
use Rattle.scan.specs.Fields.{matched}
use Rattle.scan.specs.Line.{problem_line, data_line, faulty, is_comment, line_of}
use Rattle.scan.specs.Held.{held_fields, held_line}
use Rattle.scan.specs.declared.fields.Kind.TheVariants.{EmptyLine, NoLetter}
use Rattle.scan.specs.declared.fields.Fault.{Fault}
use Rattle.scan.specs.declared.holding.Numbers.{Numbers}
use Rattle.scan.specs.declared.line.Line.TheVariants.{Comment}

held_problem : (f : Result Numbers Fault) → problem_line (held_fields f) ≡ held_line (problem_line f)
unfolding held_fields held_line
held_problem (Ok ns) = refl
held_problem (Err f) = refl

held_data : (f : Result Numbers Fault) → data_line (held_fields f) ≡ held_line (data_line f)
unfolding held_fields held_line
held_data (Ok ns) = refl
held_data (Err f) = refl

-- ---- a line, by the tests that decide what it is

module _ (problem rows s : List ℕ) where
  pub line_empty : eqb (length s) 0 ≡ true → held_line (line_of problem rows s) ≡ faulty EmptyLine
  unfolding line_of held_line
  line_empty e = rw e

  module _ (some : eqb (length s) 0 ≡ false) where
    pub line_comment : is_comment s ≡ true → held_line (line_of problem rows s) ≡ Ok Comment
    unfolding line_of held_line
    line_comment e = rw (some, e)

    module _ (uncommented : is_comment s ≡ false) where
      pub line_data : same_bytes (first_field s) (first_field rows) ≡ true → held_line (line_of problem rows s) ≡ data_line (held_fields (matched (fields_of rows) 1 (fields_of s)))
      unfolding line_of
      line_data e = rw (some, uncommented, e) (sym (held_data (matched (fields_of rows) 1 (fields_of s))))

      module _ (no_data : same_bytes (first_field s) (first_field rows) ≡ false) where
        pub line_problem : same_bytes (first_field s) (first_field problem) ≡ true
            → held_line (line_of problem rows s) ≡ problem_line (held_fields (matched (fields_of problem) 1 (fields_of s)))
        unfolding line_of
        line_problem e = rw (some, uncommented, no_data, e) (sym (held_problem (matched (fields_of problem) 1 (fields_of s))))

        pub line-none : same_bytes (first_field s) (first_field problem) ≡ false → held_line (line_of problem rows s) ≡ faulty NoLetter
        unfolding line_of held_line
        line-none e = rw (some, uncommented, no_data, e)
