-- For the same contents of the three files, one text is printed.
use Prim.Native.Nat.{ℕ}
use mathlib.Core.Path.{◌≡◌, refl, ap}
use mathlib.Core.List.{List, ◌++◌}
use Rattle.std.specs.Prelude.{Ok, Err}
use Rattle.rules.specs.declared.Refusal.{Refusal}
use Rattle.rules.proofs.PaperLaws.{refusal_injective}
use Rattle.scan.specs.Ascii.{bytes}
use Rattle.files.specs.File.{Held}
use Rattle.dimacs.proofs.Unique.{read_p2p_unique}
use Rattle.daylist.proofs.Claims.{day_unique}
use Rattle.daylist.proofs.PaperLaws.{paper_injective}
use Rattle.loading.specs.Loading.{Plan, trouble_text}
use Rattle.loading.specs.declared.trouble.Trouble.{Trouble}
use Rattle.loading.specs.declared.trouble.Trouble.TheVariants.{Refused}
use Rattle.loading.proofs.Unique.{loads_unique}
use Rattle.journeys.specs.Prints.{PrintsDay, day_unread, day_refused, day_ran, Prints, graph, places, listed}

day_prints_unique : {p : Plan} {held : Held} {printed printed' : List ℕ} → PrintsDay p held printed → PrintsDay p held printed' → printed ≡ printed'
day_prints_unique day_unread day_unread = refl
day_prints_unique (day_refused r s) (day_refused r' s') =
    ap (λ (x : Refusal). trouble_text (Refused x) ++ bytes " day.p2p\n") (refusal_injective r r' (day_unique _ _ _ _ _ _ _ _ s s').0)
day_prints_unique (day_refused r s) (day_ran T q s') = let same = paper_injective (Err r) (Ok T) (day_unique _ _ _ _ _ _ _ _ s s').0 in cc
day_prints_unique (day_ran T q s) (day_refused r s') = let same = paper_injective (Ok T) (Err r) (day_unique _ _ _ _ _ _ _ _ s s').0 in cc
day_prints_unique (day_ran {k = k} T q s) (day_ran {k = k'} T' q' s') =
    let one = day_unique _ _ _ _ _ _ _ _ s s' in
    let same = paper_injective (Ok T) (Ok T') one.0 in
    let totals : T ≡ T' = cc in
    let read = read_p2p_unique _ _ _ _ _ _ _ _ _ _ _ q q' in
    let reply = read.0 in
    let count : k ≡ k' = cc in
    rw (count, read.1, read.2, one.1, totals)

pub prints_unique : {gr co held : Held} {printed printed' : List ℕ} → Prints gr co held printed → Prints gr co held printed' → printed ≡ printed'
prints_unique (graph {t = t} l) (graph {t = t'} l') = let e = (loads_unique l l').0 in let same : t ≡ t' = cc in ap (λ (x : Trouble). trouble_text x ++ bytes " net.gr\n") same
prints_unique (graph l) (places l') = let e = (loads_unique l l').0 in cc
prints_unique (graph l) (listed l' s) = let e = (loads_unique l l').0 in cc
prints_unique (places l) (graph l') = let e = (loads_unique l l').0 in cc
prints_unique (places {t = t} l) (places {t = t'} l') = let e = (loads_unique l l').0 in let same : t ≡ t' = cc in ap (λ (x : Trouble). trouble_text x ++ bytes " net.co\n") same
prints_unique (places l) (listed l' s) = let e = (loads_unique l l').0 in cc
prints_unique (listed l s) (graph l') = let e = (loads_unique l l').0 in cc
prints_unique (listed l s) (places l') = let e = (loads_unique l l').0 in cc
prints_unique (listed l s) (listed l' s') = day_prints_unique (rw ((loads_unique l l').1 refl) at s) s'
