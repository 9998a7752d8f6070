-- For the same contents of the two files, one thing is loaded; where it is a plan with its boxes, the plan is the same.
use mathlib.Core.Path.{◌≡◌, refl, ap}
use Rattle.std.specs.Prelude.{Result, Ok, Err}
use Rattle.rules.proofs.PaperLaws.{judged_injective}
use Rattle.rules.specs.declared.Refusal.{Refusal}
use Rattle.rules.specs.declared.Sizes.{Sizes}
use Rattle.files.specs.File.{Held}
use Rattle.dimacs.proofs.Unique.{read_gr_unique, read_co_unique}
use Rattle.boxwork.proofs.SaysLaws.{build_unique}
use Rattle.loading.specs.declared.trouble.Trouble.{Trouble}
use Rattle.loading.specs.declared.trouble.Trouble.TheVariants.{Refused}
use Rattle.loading.specs.declared.trouble.Unusable.{Unusable}
use Rattle.loading.specs.declared.trouble.Unusable.TheVariants.{Graph, Places}
use Rattle.loading.specs.Loading.{Plan, troubled, ReadsGraph, graph_unread, graph_refused, graph_read, ReadsPlaces, places_unread, places_refused, built, Loads, no_graph, no_places, loaded}

-- what two readings of the same files have in common
abbrev pub Same : {E : Type 0} → Result Unit E → Plan → Result Unit E → Plan → Type 0
Same r p r' p' = (r ≡ r') × (r ≡ Ok tt → p ≡ p')

graph_unique : {before p p' : Plan} {gr : Held} {r r' : Result Unit Trouble} → ReadsGraph before gr r p → ReadsGraph before gr r' p' → Same r p r' p'
graph_unique graph_unread graph_unread = (refl, λ e. cc)
graph_unique (graph_refused {r = r} g) (graph_refused {r = r'} g') =
    let read = (read_gr_unique _ _ _ _ _ _ _ _ _ _ _ _ _ _ _ g g').0 in
    let same : r ≡ r' = cc in
    (rw same, λ e. cc)
graph_unique (graph_refused g) (graph_read g') = let read = (read_gr_unique _ _ _ _ _ _ _ _ _ _ _ _ _ _ _ g g').0 in cc
graph_unique (graph_read g) (graph_refused g') = let read = (read_gr_unique _ _ _ _ _ _ _ _ _ _ _ _ _ _ _ g g').0 in cc
graph_unique (graph_read {s = s} g) (graph_read {s = s'} g') =
    let read = read_gr_unique _ _ _ _ _ _ _ _ _ _ _ _ _ _ _ g g' in
    let sizes = read.0 in
    let same : s ≡ s' = cc in
    (refl, λ e. rw (same, read.1, read.2, read.3, read.4))

places_unique : {before p p' : Plan} {co : Held} {r r' : Result Unit Trouble} → ReadsPlaces before co r p → ReadsPlaces before co r' p' → Same r p r' p'
places_unique places_unread places_unread = (refl, λ e. cc)
places_unique (places_refused {r = r} c) (places_refused {r = r'} c') =
    let read = (read_co_unique _ _ _ _ _ _ _ _ _ _ c c').0 in
    let same : r ≡ r' = cc in
    (rw same, λ e. cc)
places_unique (places_refused c) (built answer c' s) = let read = (read_co_unique _ _ _ _ _ _ _ _ _ _ c c').0 in cc
places_unique (built answer c s) (places_refused c') = let read = (read_co_unique _ _ _ _ _ _ _ _ _ _ c c').0 in cc
places_unique (built answer c s) (built answer' c' s') =
    let read = read_co_unique _ _ _ _ _ _ _ _ _ _ c c' in
    let same = build_unique (rw (read.1, read.2) at s) s' in
    (ap troubled (judged_injective answer answer' same.0), λ e. rw (read.1, read.2, same.1))

pub loads_unique : {before p p' : Plan} {gr co : Held} {r r' : Result Unit Unusable} → Loads before gr co r p → Loads before gr co r' p' → Same r p r' p'
loads_unique (no_graph {t = t} g) (no_graph {t = t'} g') = let same = (graph_unique g g').0 in let one : t ≡ t' = cc in (rw one, λ e. cc)
loads_unique (no_graph g) (no_places g' s') = let same = (graph_unique g g').0 in cc
loads_unique (no_graph g) (loaded g' s') = let same = (graph_unique g g').0 in cc
loads_unique (no_places g s) (no_graph g') = let same = (graph_unique g g').0 in cc
loads_unique (no_places {t = t} g s) (no_places {t = t'} g' s') =
    let same = (places_unique (rw ((graph_unique g g').1 refl) at s) s').0 in
    let one : t ≡ t' = cc in
    (rw one, λ e. cc)
loads_unique (no_places g s) (loaded g' s') = let same = (places_unique (rw ((graph_unique g g').1 refl) at s) s').0 in cc
loads_unique (loaded g s) (no_graph g') = let same = (graph_unique g g').0 in cc
loads_unique (loaded g s) (no_places g' s') = let same = (places_unique (rw ((graph_unique g g').1 refl) at s) s').0 in cc
loads_unique (loaded g s) (loaded g' s') = let same = places_unique (rw ((graph_unique g g').1 refl) at s) s' in (refl, λ e. same.1 refl)
