-- What `journeys` prints, over what `net.gr`, `net.co` and `day.p2p` hold.
use Rattle.std.specs.Prelude.{ℕ, List, ◌++◌, replicate, Ok, Err}
use Rattle.rules.specs.Paper.{Reply, refusal}
use Rattle.rules.specs.declared.Refusal.{Refusal}
use Rattle.scan.specs.Ascii.{bytes}
use Rattle.files.specs.File.{Held, text, unread}
use Rattle.dimacs.specs.Promise.{P2pPromise}
use Rattle.daylist.specs.Says.{DaySays}
use Rattle.daylist.specs.Paper.{paper}
use Rattle.daylist.specs.declared.Totals.{Totals}
use Rattle.listing.specs.Journeys.{journeys_text, totals_text}
use Rattle.loading.specs.Loading.{Plan, blank, trouble_text, Loads}
use Rattle.loading.specs.declared.trouble.Trouble.{Trouble}
use Rattle.loading.specs.declared.trouble.Trouble.TheVariants.{Unread, Refused}
use Rattle.loading.specs.declared.trouble.Unusable.TheVariants.{Graph, Places}

-- the rows that a list is lent hold zeros
abbrev pub list_row : List ℕ
list_row = replicate 256 0

-- what a list on a plan says
abbrev pub DayOn : Plan → List ℕ → List ℕ → Reply → List ℕ → Type 0
DayOn p held before reply after = DaySays held p.sizes.n p.sizes.m p.arcs p.x p.y p.boxes before reply after

-- on a plan: one line per query, with what is left in the row of answers, and the totals; or the trouble with `day.p2p`
pub data PrintsDay (p : Plan) : Held → List ℕ → Type 0 where
  day_unread : PrintsDay p unread (trouble_text Unread ++ bytes " day.p2p\n")
  day_refused : {held after : List ℕ} (r : Refusal) → DayOn p held list_row (refusal r) after
      → PrintsDay p (text held) (trouble_text (Refused r) ++ bytes " day.p2p\n")
  day_ran : {held sources targets answers : List ℕ} {k : ℕ} (T : Totals)
      → P2pPromise held p.sizes.n list_row list_row list_row (Ok k) sources targets
      → DayOn p held list_row (paper (Ok T)) answers
      → PrintsDay p (text held) (journeys_text sources targets answers k ++ totals_text T.found T.none T.sum)

-- the trouble with a file of the plan comes first, and names the file
pub data Prints (gr co day : Held) : List ℕ → Type 0 where
  graph : {t : Trouble} {p : Plan} → Loads blank gr co (Err (Graph t)) p → Prints gr co day (trouble_text t ++ bytes " net.gr\n")
  places : {t : Trouble} {p : Plan} → Loads blank gr co (Err (Places t)) p → Prints gr co day (trouble_text t ++ bytes " net.co\n")
  listed : {p : Plan} {printed : List ℕ} → Loads blank gr co (Ok tt) p → PrintsDay p day printed → Prints gr co day printed
