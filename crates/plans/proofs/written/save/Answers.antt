-- `plans::written::save` meets its contract.
use Rattle.std.proofs.Common.{◌≤◌, ◌+◌, length, Ok, rules}
use Rattle.commands.specs.Rows.{stretch_of}
use Rattle.commands.specs.declared.rows.Row.TheVariants.{Text}
use Rattle.lending.proofs.PartLaws.{part_as_long}
use Rattle.desk.proofs.RequestLaws.{unsaved_on, saved_on}
use Rattle.plans.proofs.written.save.Goals as goal

pub returns-in_default-clause-saved : goal.returns-in_default-clause-saved
returns-in_default-clause-saved g c =
    let d = c.args.desk.now in
    let room : (stretch_of Text).start + (stretch_of Text).places ≤ length d.bytes = search rules in
    rw c.put_written.ensures.text
    (saved_on d c.args.format c.write_rows-written.result (part_as_long d.lent (stretch_of Text) d.bytes room _ c.places_of.ensures _ (search rules)) c.write_rows-written.ensures)

pub returns-then-is_err-clause-saved : goal.returns-then-is_err-clause-saved
returns-then-is_err-clause-saved g c =
    let d = c.args.desk.now in
    let room : (stretch_of Text).start + (stretch_of Text).places ≤ length d.bytes = search rules in
    rw c.put_unsaved.ensures.text
    (unsaved_on d (part_as_long d.lent (stretch_of Text) d.bytes room _ c.places_of.ensures _ (search rules)) c.write_rows-written.ensures c.in-Ok.is)

pub returns-clause-saved : goal.returns-clause-saved
returns-clause-saved g c =
    let d = c.args.desk.now in
    let room : (stretch_of Text).start + (stretch_of Text).places ≤ length d.bytes = search rules in
    let wrote = rw c.in-Ok.is at c.write_rows-written.ensures in
    rw c.put_written-2.ensures.text
    (saved_on d c.args.format (Ok c.in-Ok.length) (part_as_long d.lent (stretch_of Text) d.bytes room _ c.places_of.ensures _ (search rules)) wrote)
