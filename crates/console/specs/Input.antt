-- What a line of the input asks for.
use Rattle.std.specs.Prelude.{ℕ, List, cond, ltb, length, take, Result, Err}
use Rattle.commands.specs.Commands.{command_of}
use Rattle.commands.specs.declared.Command.{Command}
use Rattle.commands.specs.declared.Fault.{Fault}
use Rattle.commands.specs.declared.Fault.TheVariants.{LongLine}

-- what a line of so many bytes asks for, of which as many are kept as there is room for
abbrev pub asked_by : List ℕ → ℕ → Result Command Fault
asked_by line bytes = cond (ltb (length line) bytes) (Err LongLine) (command_of (take bytes line))
