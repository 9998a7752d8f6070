-- `replies::showing::show_row` meets its contract.
use mathlib.Core.Path.{ap}
use native.Mathlib.Omega.{arith}
use lib.ListN.{length}
use Prim.Native.Nat.{ℕ}
use Rattle.commands.specs.declared.rows.Kind.TheVariants.{Counts, Numbers, Bytes}
use Rattle.replies.proofs.ShowingLaws.{name_short, shown_fits, show_is}
use Rattle.replies.proofs.showing.show_row.Goals as goal

pub show_values-requires : goal.show_values-requires
show_values-requires c =
    let name = ap (length {A = ℕ}) c.name-name.ensures in
    omega (arith, name_short c.args.row, shown_fits c.args.row c.stretch.ensures.value Counts c.in-Counts.is _ _ _ c.stretch.ensures.lies c.counts_of.ensures)

pub returns-in-Counts : goal.returns-in-Counts
returns-in-Counts c = show_is c.args.row c.stretch.ensures.value Counts c.in-Counts.is c.args.desk.now c.args.shown _ c.name-name.ensures c.counts_of.ensures c.show_values.ensures

pub show_values-requires-in-Numbers : goal.show_values-requires-in-Numbers
show_values-requires-in-Numbers c =
    let name = ap (length {A = ℕ}) c.name-name.ensures in
    omega (arith, name_short c.args.row, shown_fits c.args.row c.stretch.ensures.value Numbers c.in-Numbers.is _ _ _ c.stretch.ensures.lies c.numbers_of.ensures)

pub returns-in-Numbers : goal.returns-in-Numbers
returns-in-Numbers c = show_is c.args.row c.stretch.ensures.value Numbers c.in-Numbers.is c.args.desk.now c.args.shown _ c.name-name.ensures c.numbers_of.ensures c.show_values-in-Numbers.ensures

pub show_values-requires-in-Bytes : goal.show_values-requires-in-Bytes
show_values-requires-in-Bytes c =
    let name = ap (length {A = ℕ}) c.name-name.ensures in
    omega (arith, name_short c.args.row, shown_fits c.args.row c.stretch.ensures.value Bytes c.in-Bytes.is _ _ _ c.stretch.ensures.lies c.bytes_of.ensures)

pub returns-in-Bytes : goal.returns-in-Bytes
returns-in-Bytes c = show_is c.args.row c.stretch.ensures.value Bytes c.in-Bytes.is c.args.desk.now c.args.shown _ c.name-name.ensures c.bytes_of.ensures c.show_values-in-Bytes.ensures
