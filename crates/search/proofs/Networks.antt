-- Networks with the same arcs give the same answers.
use Prim.Native.Nat.{ℕ}
use mathlib.Core.Path.{refl}
use mathlib.Core.List.{List}
use Rattle.rules.specs.Paper.{Reply}
use Rattle.rules.specs.Judging.{Judged}
use Rattle.walks.specs.Walk.{Net, kept}
use Rattle.walks.specs.Rows.{Rows, laid, is_open, network}
use Rattle.search.specs.Says.{Answers, found, none, Says, refused, answered}
use Rattle.walks.proofs.Alike.{Alike, found_alike, no_walk_alike}

pub answers_alike : {N F : Net} {n s t : ℕ} {before after : List ℕ} {reply : Reply} → Alike N F → Answers N n s t before reply after → Answers F n s t before reply after
answers_alike x (found f) = found (found_alike x f)
answers_alike x (none f) = none (no_walk_alike x f)

pub says_alike : {judged : Judged} {N F : Net} {n s t : ℕ} {before after : List ℕ} {reply : Reply} → Alike N F → Says judged N n s t before reply after → Says judged F n s t before reply after
says_alike x (refused e) = refused e
says_alike x (answered f a) = answered f (answers_alike x a)

-- the open arcs
pub open_arcs : (m : ℕ) (R : Rows) → Alike (kept (is_open R.closures) (laid m R)) (network m R)
unfolding network
open_arcs m R = record { there = λ e a. a; back = λ e a. a; tail = λ e a. refl; head = λ e a. refl; weight = λ e a. refl }
