-- For the same desk, each request has one reply and leaves one desk; so has what is read, for the same file.
use mathlib.Core.Path.{◌≡◌, refl, ap}
use mathlib.Core.List.{List}
use Prim.Native.Nat.{ℕ}
use Rattle.files.specs.File.{Held}
use Rattle.commands.specs.declared.Request.{Request}
use Rattle.commands.specs.declared.verbs.Reading.{Reading}
use Rattle.replies.specs.Replies.{written_line}
use Rattle.calls.proofs.Unique.{makes_unique, reads_graph_unique, reads_places_unique, runs_day_unique}
use Rattle.writing.proofs.Unique.{writes_unique}
use Rattle.lending.specs.declared.Desk.{Desk}
use Rattle.desk.specs.Requests.{Meets, Reads}

pub meets_unique : {d : Desk} {r : Request} {reply reply' : List ℕ} {after after' : Desk} → Meets d r reply after → Meets d r reply' after' → (reply ≡ reply') × (after ≡ after')
meets_unique Meets.set_n Meets.set_n = (refl, refl)
meets_unique Meets.set_m Meets.set_m = (refl, refl)
meets_unique Meets.show Meets.show = (refl, refl)
meets_unique (Meets.called c) (Meets.called c') = let e = makes_unique c c' in (e.0, rw e.1)
meets_unique (Meets.written w) (Meets.written w') = let e = writes_unique _ _ _ _ _ _ _ w w' in (ap written_line e.0, rw e.1)
meets_unique Meets.help Meets.help = (refl, refl)

pub reads_unique : {held : Held} {d : Desk} {r : Reading} {reply reply' : List ℕ} {after after' : Desk} → Reads held d r reply after → Reads held d r reply' after' → (reply ≡ reply') × (after ≡ after')
reads_unique (Reads.gr g) (Reads.gr g') = let e = reads_graph_unique g g' in (e.0, rw (e.1, e.2))
reads_unique (Reads.co p) (Reads.co p') = let e = reads_places_unique p p' in (e.0, rw (e.1, e.2))
reads_unique (Reads.p2p p) (Reads.p2p p') = let e = runs_day_unique p p' in (e.0, rw e.1)
