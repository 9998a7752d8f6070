-- `plans::written::write_row` meets its contract.
use Rattle.std.proofs.Common.{◌≤◌, ◌+◌, length, sym, ap, ◌∙◌, rules}
use Rattle.commands.specs.Rows.{stretch_of}
use Rattle.commands.specs.declared.rows.Row.TheVariants.{Text}
use Rattle.lending.proofs.PartLaws.{part_is, part_put_is, part_long}
use Rattle.desk.proofs.RequestLaws.{written_on}
use Rattle.plans.proofs.written.write_row.Goals as goal

pub returns-clause-meets : goal.returns-clause-meets
returns-clause-meets c =
    let d = c.args.desk.now in
    let s = c.stretch-a.ensures.value in
    let wrote = c.write_rows-written in
    let room : (stretch_of Text).start + (stretch_of Text).places ≤ length d.bytes = search rules in
    let same = part_is _ Text s d.lent _ d.bytes c.places_of.ensures in
    let long = wrote.auto.text ∙ ap length same ∙ part_long d.lent (stretch_of Text) d.bytes room ∙ sym c.places_of.ensures in
    let back = part_put_is _ Text s _ d.bytes wrote.new.text long in
    rw (c.put_written.ensures.text, back) (written_on d same wrote.ensures)
