-- What is printed of a list that was run.
use mathlib.Core.List.{◌++◌}
use Rattle.std.specs.Prelude.{Ok, Err}
use Rattle.scan.specs.Ascii.{bytes}
use Rattle.files.specs.File.{Held}
use Rattle.daylist.specs.declared.Totals.{Totals}
use Rattle.listing.specs.Journeys.{journeys_text, totals_text}
use Rattle.loading.specs.Loading.{Plan, trouble_text}
use Rattle.loading.specs.declared.trouble.Trouble.{Trouble}
use Rattle.journeys.specs.declared.day.Journeys.{Journeys}
use Rattle.journeys.specs.Prints.{list_row, PrintsDay, day_unread, day_refused, day_ran}
use Rattle.journeys.specs.Steps.{Runs, run_unread, run_refused, ran}

-- the rows before a list is run
abbrev pub fresh : Journeys
fresh = record { count = 0; sources = list_row; targets = list_row; lengths = list_row }

pub ran_prints : {p : Plan} {held : Held} {T : Totals} {after : Journeys} → Runs p fresh held (Ok T) after
    → PrintsDay p held (journeys_text after.sources after.targets after.lengths after.count ++ totals_text T.found T.none T.sum)
ran_prints (ran q s) = day_ran _ q s

pub trouble_prints : {p : Plan} {held : Held} {t : Trouble} {after : Journeys} → Runs p fresh held (Err t) after → PrintsDay p held (trouble_text t ++ bytes " day.p2p\n")
trouble_prints run_unread = day_unread
trouble_prints (run_refused d) = day_refused _ d
