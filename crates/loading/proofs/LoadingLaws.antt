-- What is loaded of what was read of the files.
use Prim.Native.Nat.{ℕ}
use mathlib.Core.Path.{◌≡◌, refl, sym, ap}
use mathlib.Core.Bool.{true, false}
use Rattle.std.specs.Prelude.{Option, Some, None, Result, Ok, Err, MatchResult}
use Rattle.std.specs.Option.{ok_or}
use Rattle.std.specs.Result.{is_ok, IsErrAnd}
use Rattle.rules.specs.Paper.{Reply}
use Rattle.rules.proofs.PaperLaws.{refusal_nonzero}
use Rattle.rules.specs.declared.Refusal.{Refusal}
use Rattle.rules.specs.declared.Sizes.{Sizes}
use Rattle.files.specs.File.{Held}
use Rattle.dimacs.specs.Texts.{Outcome, read, refused}
use Rattle.dimacs.specs.Reading.{gr_reply, gr_says}
use Rattle.loading.specs.declared.trouble.Trouble.{Trouble}
use Rattle.loading.specs.declared.trouble.Trouble.TheVariants.{Unread}
use Rattle.loading.specs.declared.trouble.Unusable.{Unusable}
use Rattle.loading.specs.declared.trouble.Unusable.TheVariants.{Graph, Places}
use Rattle.loading.specs.Loading.{Plan, blank, is_read, is_graph, ReadsGraph, graph_unread, graph_refused, graph_read, ReadsPlaces, Loads, no_graph, no_places, loaded}

-- no file was read, and so it is told
pub not_read : {A : Type 0} (o : Option A) {t : Trouble} → Err t ≡ ok_or o Unread → (o ≡ None) × (t ≡ Unread)
not_read None e = (refl, cc)
not_read (Some x) e = cc

-- ---- whether a graph was read

read_told : (o : Outcome) (s : Sizes) → gr_reply (Ok s) ≡ gr_says o → true ≡ is_read o
unfolding is_read gr_says
read_told (read problem lines) s e = refl
read_told (refused r) s e = absurd (refusal_nonzero r (ap (λ (x : Reply). x.number) e))

refused-told : (o : Outcome) (r : Refusal) → gr_reply (Err r) ≡ gr_says o → false ≡ is_read o
unfolding is_read gr_says
refused-told (read problem lines) r e = absurd (refusal_nonzero r (ap (λ (x : Reply). x.number) (sym e)))
refused-told (refused s) r e = refl

pub graph_told : {gr : Held} {r : Result Unit Trouble} {after : Plan} → ReadsGraph blank gr r after → is_ok r ≡ is_graph gr
graph_told graph_unread = refl
graph_told (graph_refused {r = r} p) = refused-told _ r p.reply
graph_told (graph_read {s = s} p) = read_told _ s p.reply

-- ---- one file after the other

-- q is r, with its trouble told as f tells it
abbrev Mapped : (Trouble → Unusable) → Result Unit Trouble → Result Unit Unusable → Type 0
Mapped f r q = MatchResult r (λ x. q ≡ Ok x) (λ t. IsErrAnd q (λ u. u ≡ f t))

pub graph_fails : {before after : Plan} {gr co : Held} (r : Result Unit Trouble) {u : Unusable}
    → Mapped Graph r (Err u) → ReadsGraph before gr r after → Loads before gr co (Err u) after
graph_fails (Ok _) h g = cc
graph_fails (Err t) h g = rw h (no_graph g)

places_read : {before graph after : Plan} {gr co : Held} (s : Result Unit Trouble) (q : Result Unit Unusable)
    → Mapped Places s q → ReadsGraph before gr (Ok tt) graph → ReadsPlaces graph co s after → Loads before gr co q after
places_read (Ok _) q h g p = rw h (loaded g p)
places_read (Err t) (Ok _) h g p = absurd h
places_read (Err t) (Err u) h g p = rw h (no_places g p)

pub places_next : {before graph after : Plan} {gr co : Held} (r s : Result Unit Trouble) {x : Unit} {q : Result Unit Unusable}
    → Mapped Graph r (Ok x) → Mapped Places s q → ReadsGraph before gr r graph → ReadsPlaces graph co s after → Loads before gr co q after
places_next (Ok _) s h k g p = places_read s _ k g p
places_next (Err t) s h k g p = absurd h
