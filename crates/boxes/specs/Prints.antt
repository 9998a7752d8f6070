-- What `boxes` prints, over what `net.gr` and `net.co` hold.
use Rattle.std.specs.Prelude.{List, ℕ, ◌++◌, Ok, Err}
use Rattle.scan.specs.Ascii.{bytes}
use Rattle.files.specs.File.{Held}
use Rattle.listing.specs.Listing.{listing}
use Rattle.loading.specs.Loading.{Plan, blank, trouble_text, Loads}
use Rattle.loading.specs.declared.trouble.Trouble.{Trouble}
use Rattle.loading.specs.declared.trouble.Unusable.TheVariants.{Graph, Places}

-- one line per arc, or what the trouble is with a file
pub data Prints (gr co : Held) : List ℕ → Type 0 where
  graph : {t : Trouble} {p : Plan} → Loads blank gr co (Err (Graph t)) p → Prints gr co (trouble_text t ++ bytes "\n")
  places : {t : Trouble} {p : Plan} → Loads blank gr co (Err (Places t)) p → Prints gr co (trouble_text t ++ bytes "\n")
  listed : {p : Plan} → Loads blank gr co (Ok tt) p → Prints gr co (listing p.arcs.tails p.arcs.heads p.arcs.weights p.boxes p.sizes.m)
