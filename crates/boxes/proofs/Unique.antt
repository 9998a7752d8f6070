-- For the same contents of the two files, one text is printed.
use Prim.Native.Nat.{ℕ}
use mathlib.Core.Path.{◌≡◌, refl, ap}
use mathlib.Core.List.{List, ◌++◌}
use Rattle.scan.specs.Ascii.{bytes}
use Rattle.files.specs.File.{Held}
use Rattle.loading.specs.Loading.{trouble_text}
use Rattle.loading.specs.declared.trouble.Trouble.{Trouble}
use Rattle.loading.proofs.Unique.{loads_unique}
use Rattle.boxes.specs.Prints.{Prints, graph, places, listed}

line : {t t' : Trouble} → t ≡ t' → trouble_text t ++ bytes "\n" ≡ trouble_text t' ++ bytes "\n"
line e = ap (λ (t : Trouble). trouble_text t ++ bytes "\n") e

pub prints_unique : {gr co : Held} {printed printed' : List ℕ} → Prints gr co printed → Prints gr co printed' → printed ≡ printed'
prints_unique (graph {t = t} l) (graph {t = t'} l') = let e = (loads_unique l l').0 in let same : t ≡ t' = cc in line same
prints_unique (graph l) (places l') = let e = (loads_unique l l').0 in cc
prints_unique (graph l) (listed l') = let e = (loads_unique l l').0 in cc
prints_unique (places l) (graph l') = let e = (loads_unique l l').0 in cc
prints_unique (places {t = t} l) (places {t = t'} l') = let e = (loads_unique l l').0 in let same : t ≡ t' = cc in line same
prints_unique (places l) (listed l') = let e = (loads_unique l l').0 in cc
prints_unique (listed l) (graph l') = let e = (loads_unique l l').0 in cc
prints_unique (listed l) (places l') = let e = (loads_unique l l').0 in cc
prints_unique (listed l) (listed l') = rw ((loads_unique l l').1 refl)
