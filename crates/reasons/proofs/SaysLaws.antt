-- For each input one reply, refused calls too.
use Prim.Native.Nat.{ℕ}
use mathlib.Core.Path.{◌≡◌, ap}
use native.Mathlib.Omega.{arith}
use Rattle.rules.specs.Paper.{Reply}
use Rattle.walks.specs.Walk.{Net}
use Rattle.walks.specs.Rows.{Rows}
use Rattle.walks.proofs.SearchLaws.{no_walk_unique}
use Rattle.reasons.specs.Paper.{told}
use Rattle.reasons.specs.Says.{Answers, reason, none, WhySays, refused, answered}
use Rattle.reasons.proofs.ReasonLaws.{reason_unique}

answers_unique : {N : Net} {n s t arc : ℕ} {reply reply' : Reply} → Answers N n s t arc reply → Answers N n s t arc reply' → reply ≡ reply'
answers_unique (reason q x p) (reason r x' p') = ap told (reason_unique q r p p')
answers_unique (reason q x p) (none h) = absurd (h.none x)
answers_unique (none h) (reason r x p) = absurd (h.none x)
answers_unique (none h) (none h') = rw (no_walk_unique h h')

pub why_unique : {n m : ℕ} {R : Rows} {s t arc : ℕ} {reply reply' : Reply} → WhySays n m R s t arc reply → WhySays n m R s t arc reply' → reply ≡ reply'
why_unique (refused {r = r} e) (refused {r = r'} e') = let same : r ≡ r' = cc in rw same
why_unique (refused e) (answered f a) = let z : ◌≡◌ {A = ℕ} 0 1 = cc in absurd (omega arith)
why_unique (answered f a) (refused e) = let z : ◌≡◌ {A = ℕ} 0 1 = cc in absurd (omega arith)
why_unique (answered f a) (answered f' a') = answers_unique a a'
