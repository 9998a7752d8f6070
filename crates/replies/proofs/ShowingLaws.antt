-- What is shown of a row, once its kind is known.
use Prim.Native.Nat.{ℕ, ◌*◌, ◌≤◌}
use mathlib.Core.Path.{◌≡◌, sym, ap, subst, ◌∙◌}
use native.Mathlib.Omega.{arith}
use mathlib.Core.List.{List}
use lib.ListN.{length}
use Rattle.std.specs.Prelude.{Option}
use Rattle.commands.specs.Rows.{Value, Lies, stretch_of, kind_of, width_of, name_of}
use Rattle.commands.specs.declared.rows.Row.{Row}
use Rattle.commands.specs.declared.rows.Row.TheVariants as row
use Rattle.commands.specs.declared.rows.Kind.{Kind}
use Rattle.commands.specs.declared.rows.Kind.TheVariants.{Counts, Numbers, Bytes}
use Rattle.commands.specs.declared.rows.Stretch.{Stretch}
use Rattle.lending.specs.Stores.{store_of, lent_at, part_at, all_of}
use Rattle.lending.specs.declared.Desk.{Desk}
use Rattle.lending.specs.declared.rows.Lent.{Lent}
use Rattle.lending.proofs.PartLaws.{part_few}
use Rattle.replies.specs.Showing.{how_many, first_shown, text_of, show_line}

pub name_short : (r : Row) → length (name_of r) ≤ 7
unfolding name_of
name_short row.Tails = omega arith
name_short row.Heads = omega arith
name_short row.Weights = omega arith
name_short row.X = omega arith
name_short row.Y = omega arith
name_short row.Boxes = omega arith
name_short row.Route = omega arith
name_short row.Text = omega arith
name_short row.Closed = omega arith
name_short row.Answers = omega arith

-- a row that was looked up in the table
module _ (s : Stretch) (r : Row) (e : s ≡ stretch_of r) (lent : Lent) where
  pub lent_there : (many k : ℕ) → many ≡ lent_at lent s → k ≤ many → k ≤ lent_at lent (stretch_of r)
  lent_there many k p h = let q = ap (λ (t : Stretch). lent_at lent t) e in omega (arith, p, q)

  -- the values that are lent have room on a page
  pub few : Lies s → (kind : Kind) → s.kind ≡ kind → (k : ℕ) → k ≤ lent_at lent (stretch_of r) → k * width_of kind ≤ 360448
  few l kind q k h = by_kind kind (subst (λ (x : Kind). s.places * width_of x ≤ 360448) q l.short) (omega (arith, ap (λ (t : Stretch). lent_at lent t) e))
    where
      by_kind : (x : Kind) → s.places * width_of x ≤ 360448 → k ≤ s.places → k * width_of x ≤ 360448
      by_kind Counts p b = omega arith
      by_kind Numbers p b = omega arith
      by_kind Bytes p b = omega arith

-- a row that was looked up in the table, and its kind
module _ {s : Stretch} (r : Row) (e : s ≡ stretch_of r) (kind : Kind) (q : s.kind ≡ kind) where
  -- the values that are lent have room on a page
  pub shown_fits : {A : Type 0} (lent : Lent) (store values : List A) → Lies s → values ≡ part_at lent (stretch_of r) store → length values * width_of kind ≤ 360448
  shown_fits lent store values l v = by_kind kind (subst (λ (x : Kind). s.places * width_of x ≤ 360448) q l.short) few
    where
      few : length values ≤ s.places
      few = let p = ap (λ (t : Stretch). t.places) e in omega (arith, p, part_few lent r store values v)

      by_kind : (x : Kind) → s.places * width_of x ≤ 360448 → length values ≤ s.places → length values * width_of x ≤ 360448
      by_kind Counts p h = omega arith
      by_kind Numbers p h = omega arith
      by_kind Bytes p h = omega arith

  pub show_is : (d : Desk) (shown : Option ℕ) (values : List (Value kind)) {name page : List ℕ} → name ≡ name_of r → values ≡ part_at d.lent (stretch_of r) (store_of kind (all_of d))
      → page ≡ first_shown (text_of kind) name values (how_many shown (length values)) → page ≡ show_line r shown d
  show_is d shown values n v p =
      let was : kind ≡ kind_of r = sym q ∙ ap (λ (t : Stretch). t.kind) e in
      let shown_as = λ (k : Kind). let stored = part_at d.lent (stretch_of r) (store_of k (all_of d)) in first_shown (text_of k) (name_of r) stored (how_many shown (length stored)) in
      rw (n, v) at p ∙ ap shown_as was
