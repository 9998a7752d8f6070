-- What the console replies, one line each.
use Rattle.std.specs.Prelude.{ℕ, List, ◌++◌, take, Result, Ok, Err}
use Rattle.scan.specs.Ascii.{bytes}
use Rattle.rules.specs.Judging.{Judged}
use Rattle.rules.specs.declared.Refusal.{Refusal}
use Rattle.scan.specs.Decimal.{decimal}
use Rattle.pages.specs.Spaced.{counts_text}
use Rattle.wording.specs.Refusals.{refusal_line}
use Rattle.commands.specs.declared.Fault.{Fault}
use Rattle.commands.specs.declared.Fault.TheVariants.{LongLine, EmptyLine, ControlByte, EmptyWord, NoCommand, WordCount, NoRow, LongRow, Misspelt, BeyondType, FewerLent}
use Rattle.listing.specs.Journeys.{totals_text}
use Rattle.daylist.specs.declared.Totals.{Totals}
use Rattle.search.specs.declared.Found.{Found}
use Rattle.reasons.specs.declared.Reason.{Reason}
use Rattle.reasons.specs.declared.Reason.TheVariants.{Closed, CutOff, Longer, Tied, OnRoute}

unfoldable pub ok_line : List ℕ
ok_line = bytes "ok\n"

unfoldable pub help_line : List ℕ
help_line =
    bytes "commands: n N, m M, lend ROW VALUES, show ROW, show ROW K, gr FILE, co FILE, p2p FILE, build, check, "
    ++ bytes "update ARC WEIGHT BYTE, search S T, boxed S T, why S T ARC, write gr, write co, save gr FILE, save co FILE, fresh, help; rows: tails, heads, weights, x, y, boxes, route, text, closed, answers\n"

-- `build`, `check`, `update`: `ok`, or why the call was refused
unfoldable pub judged_line : Judged → List ℕ
judged_line (Ok _) = ok_line
judged_line (Err r) = refusal_line r

-- `gr`: n and m of the file
unfoldable pub sizes_line : ℕ → ℕ → List ℕ
sizes_line n m = bytes "ok " ++ decimal n ++ bytes " " ++ decimal m ++ bytes "\n"

-- `p2p`: how many queries had a route, how many had none, and the sum of the lengths; or why the list was refused
unfoldable pub day_line : Result Totals Refusal → List ℕ
day_line (Ok totals) = bytes "ok " ++ totals_text totals.found totals.none totals.sum
day_line (Err r) = refusal_line r

-- `search`, `boxed`: length, arc count, settled count and the route's arcs; or why the search was refused
unfoldable pub answer_line : Result Found Refusal → List ℕ → List ℕ
answer_line (Ok found) route =
    bytes "ok "
    ++ decimal found.length
    ++ bytes " "
    ++ decimal found.arcs
    ++ bytes " "
    ++ decimal found.settled
    ++ counts_text (take found.arcs route)
    ++ bytes "\n"
answer_line (Err r) route = refusal_line r

-- `why`: the reason's number and its words, with the excess where the best way is longer; or why the question was refused
unfoldable pub reason_line : Result Reason Refusal → List ℕ
reason_line (Ok Closed) = bytes "ok 1 (the track is closed)\n"
reason_line (Ok CutOff) = bytes "ok 2 (its start cannot be reached, or the target not from its end)\n"
reason_line (Ok (Longer excess)) =
    bytes "ok 3 " ++ decimal excess ++ bytes " (the best way through it is longer by " ++ decimal excess ++ bytes ")\n"
reason_line (Ok Tied) = bytes "ok 4 (an equally short way uses it, and the tie rule picked another)\n"
reason_line (Ok OnRoute) = bytes "ok 5 (it is on the route)\n"
reason_line (Err r) = refusal_line r

-- `write`, `save`: the text's length, or why the writer refused
unfoldable pub written_line : Result ℕ Refusal → List ℕ
written_line (Ok length) = bytes "ok " ++ decimal length ++ bytes "\n"
written_line (Err r) = refusal_line r

-- `save` where the file cannot be written
unfoldable pub unsaved_line : List ℕ
unsaved_line = bytes "refused 0 0 (the file cannot be written)\n"

-- why a line is no command
unfoldable pub fault_line : Fault → List ℕ
fault_line LongLine = bytes "? the line is too long\n"
fault_line EmptyLine = bytes "? the line is empty\n"
fault_line ControlByte = bytes "? a word holds a carriage return or a tab\n"
fault_line EmptyWord = bytes "? words are divided by single spaces, with none before or after\n"
fault_line NoCommand = bytes "? no such command, help names them\n"
fault_line WordCount = bytes "? a wrong count of words for this command\n"
fault_line NoRow = bytes "? no such row, help names them\n"
fault_line LongRow = bytes "? the row has fewer places than that\n"
fault_line Misspelt = bytes "? a number is misspelt\n"
fault_line BeyondType = bytes "? a number is too small or too large for its place\n"
fault_line FewerLent = bytes "? fewer places of the row are lent\n"
