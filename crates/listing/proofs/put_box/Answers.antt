-- `listing::put_box` meets its contract.
use Prim.Native.Nat.{◌+◌}
use mathlib.Core.Path.{◌∙◌}
use mathlib.Core.List.{append_assoc}
use lib.IntN.{pos}
use lib.ListN.{get_or}
use mir.Syntax.{w32}
use mir.Facts.{to_z-of_z}
use Rattle.scan.specs.Ascii.{bytes}
use borrow.Author.Rules.{rules}
use Rattle.listing.proofs.put_box.Goals as goal

pub returns-clause-puts : goal.returns-clause-puts
unfolding bytes
returns-clause-puts c =
    let boxes = c.args.boxes.now in
    let k = c.args.k in
    let first = rw (to_z-of_z {w = w32} {z = get_or boxes k (pos 0)} (search rules)) at c.put_field.ensures.puts in
    let second = rw (to_z-of_z {w = w32} {z = get_or boxes (k + 1) (pos 0)} (search rules)) at c.put_field-2.ensures.puts in
    let third = rw (to_z-of_z {w = w32} {z = get_or boxes (k + 2) (pos 0)} (search rules)) at c.put_field-3.ensures.puts in
    let fourth = rw (to_z-of_z {w = w32} {z = get_or boxes (k + 3) (pos 0)} (search rules)) at c.put_number.ensures.puts in
    c.put.ensures ∙ rw (fourth, third, second, first) (simp append_assoc)
