-- For the same rows and the same file, each call and each reading has one reply and leaves one content of the rows.
use Prim.Native.Nat.{ℕ}
use mathlib.Core.Path.{◌≡◌, refl, ap}
use mathlib.Core.List.{List}
use lib.IntN.{ℤ}
use Rattle.std.proofs.Common.{Result}
use Rattle.rules.proofs.PaperLaws.{judged_injective}
use Rattle.walks.specs.Rows.{Rows}
use Rattle.files.specs.File.{Held}
use Rattle.commands.specs.declared.Call.{Call}
use Rattle.dimacs.proofs.Unique.{read_gr_unique, read_co_unique}
use Rattle.daylist.proofs.Claims.{day_unique}
use Rattle.daylist.proofs.PaperLaws as daylist
use Rattle.reasons.proofs.PaperLaws as reasons
use Rattle.reasons.proofs.SaysLaws.{why_unique}
use Rattle.search.proofs.PaperLaws.{paper_injective}
use Rattle.search.proofs.SaysLaws.{says_unique}
use Rattle.boxwork.proofs.SaysLaws.{build_unique, check_unique, update_unique}
use Rattle.replies.specs.Replies.{judged_line, day_line, reason_line}
use Rattle.calls.specs.Calls.{Given, with_boxes, with_route, Makes}
use Rattle.calls.specs.Texts.{graph_line, graph_sizes, ReadsGraph, ReadsPlaces, RunsDay}
use Rattle.rules.specs.declared.Refusal.{Refusal}
use Rattle.rules.specs.declared.Sizes.{Sizes}

-- ---- the calls

pub makes_unique : {sizes : Sizes} {g left left' : Given} {c : Call} {reply reply' : List ℕ} → Makes sizes g c reply left → Makes sizes g c reply' left' → (reply ≡ reply') × (left ≡ left')
makes_unique {g = g} (Makes.build j s) (Makes.build j' s') =
    let same = build_unique s s' in
    (ap judged_line (judged_injective j j' same.0), ap (λ (l : List ℤ). with_boxes l g) same.1)
makes_unique (Makes.check j s) (Makes.check j' s') = (ap judged_line (judged_injective j j' (check_unique s s')), refl)
makes_unique (Makes.update j s) (Makes.update j' s') =
    let same = update_unique s s' in
    (ap judged_line (judged_injective j j' same.0), rw (same.1, same.2))
makes_unique {g = g} (Makes.search a s) (Makes.search a' s') =
    let same = says_unique s s' in
    (rw (paper_injective a a' same.0, same.1), ap (λ (l : List ℕ). with_route l g) same.1)
makes_unique {g = g} (Makes.boxed a s) (Makes.boxed a' s') =
    let same = says_unique s s' in
    (rw (paper_injective a a' same.0, same.1), ap (λ (l : List ℕ). with_route l g) same.1)
makes_unique (Makes.why a s) (Makes.why a' s') = (ap reason_line (reasons.paper_injective a a' (why_unique s s')), refl)

-- ---- the files

pub reads_graph_unique : {held : Held} {sizes next next' : Sizes} {R left left' : Rows} {reply reply' : List ℕ}
    → ReadsGraph held sizes R reply next left → ReadsGraph held sizes R reply' next' left'
    → (reply ≡ reply') × (next ≡ next') × (left ≡ left')
reads_graph_unique (ReadsGraph.no_file h) (ReadsGraph.no_file h') = (refl, refl, refl)
reads_graph_unique (ReadsGraph.no_file h) (ReadsGraph.file r h' p) = cc
reads_graph_unique (ReadsGraph.file r h p) (ReadsGraph.no_file h') = cc
reads_graph_unique {sizes = sizes} (ReadsGraph.file {bytes = bytes} r h p) (ReadsGraph.file {bytes = bytes'} r' h' p') =
    let same : bytes ≡ bytes' = cc in
    let e = read_gr_unique _ _ _ _ _ r r' _ _ _ _ _ _ _ _ (rw same at p) p' in
    (ap graph_line e.0, ap (λ (g : Result Sizes Refusal). graph_sizes g sizes) e.0, rw (e.1, e.2, e.3, e.4))

pub reads_places_unique : {held : Held} {n : ℕ} {x y : List ℤ} {reply reply' : List ℕ} {a a' b b' : List ℤ}
    → ReadsPlaces held n x y reply a b → ReadsPlaces held n x y reply' a' b' → (reply ≡ reply') × (a ≡ a') × (b ≡ b')
reads_places_unique (ReadsPlaces.no_file h) (ReadsPlaces.no_file h') = (refl, refl, refl)
reads_places_unique (ReadsPlaces.no_file h) (ReadsPlaces.file r h' p) = cc
reads_places_unique (ReadsPlaces.file r h p) (ReadsPlaces.no_file h') = cc
reads_places_unique (ReadsPlaces.file {bytes = bytes} r h p) (ReadsPlaces.file {bytes = bytes'} r' h' p') =
    let same : bytes ≡ bytes' = cc in
    let e = read_co_unique _ _ _ _ r r' _ _ _ _ (rw same at p) p' in
    (ap judged_line e.0, e.1, e.2)

pub runs_day_unique : {held : Held} {sizes : Sizes} {R : Rows} {x y boxes : List ℤ} {answers left left' reply reply' : List ℕ}
    → RunsDay held sizes R x y boxes answers reply left → RunsDay held sizes R x y boxes answers reply' left' → (reply ≡ reply') × (left ≡ left')
runs_day_unique (RunsDay.no_file h) (RunsDay.no_file h') = (refl, refl)
runs_day_unique (RunsDay.no_file h) (RunsDay.file r h' p) = cc
runs_day_unique (RunsDay.file r h p) (RunsDay.no_file h') = cc
runs_day_unique (RunsDay.file {bytes = bytes} r h p) (RunsDay.file {bytes = bytes'} r' h' p') =
    let same : bytes ≡ bytes' = cc in
    let e = day_unique _ _ _ _ _ _ _ _ (rw same at p) p' in
    (ap day_line (daylist.paper_injective r r' e.0), e.1)
