-- The worked lines have the faults that are told of them.
use mathlib.Core.Path.{refl}
use Rattle.scan.specs.Ascii.{bytes}
use Rattle.scan.specs.Pieces.{opening, pieces, first_at}
use Rattle.scan.specs.Numbers.{value_from, natural_of}
use Rattle.scan.specs.Fields.{before, taken, on_field, matched}
use Rattle.scan.specs.Line.{line_of}
use Rattle.scan.specs.WorkedLines.{WorkedLines}

pub worked_lines : WorkedLines
unfolding bytes opening pieces first_at value_from natural_of before taken on_field matched line_of
worked_lines = (refl, refl, refl, refl, refl, refl, refl, refl, refl, refl, refl, refl)
