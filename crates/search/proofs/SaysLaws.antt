-- For each input one reply and one content of the route row, refused calls too.
use Prim.Native.Nat.{ℕ}
use mathlib.Core.Path.{◌≡◌, refl}
use mathlib.Core.List.{List}
use native.Mathlib.Omega.{arith}
use Rattle.rules.specs.Paper.{Reply}
use Rattle.rules.specs.Judging.{Judged}
use Rattle.walks.specs.Walk.{Net}
use Rattle.walks.proofs.SearchLaws.{found_unique, no_walk_unique, not_both}
use Rattle.search.specs.Says.{Answers, found, none, Says, refused, answered}

module _ {N : Net} {n s t : ℕ} {before : List ℕ} where
  pub answers_unique : {reply reply' : Reply} {after after' : List ℕ} → Answers N n s t before reply after → Answers N n s t before reply' after' → (reply ≡ reply') × (after ≡ after')
  answers_unique (found p) (found q) = let e = found_unique p q in (rw (e.length, e.count, e.settled), rw e.route)
  answers_unique (found p) (none q) = absurd (not_both p q)
  answers_unique (none p) (found q) = absurd (not_both q p)
  answers_unique (none p) (none q) = (rw (no_walk_unique p q), refl)

  pub says_unique : {judged : Judged} {reply reply' : Reply} {after after' : List ℕ} → Says judged N n s t before reply after → Says judged N n s t before reply' after' → (reply ≡ reply') × (after ≡ after')
  says_unique (refused {r = r} e) (refused {r = r'} e') = let same : r ≡ r' = cc in (rw same, refl)
  says_unique (refused e) (answered f a) = let z : ◌≡◌ {A = ℕ} 0 1 = cc in absurd (omega arith)
  says_unique (answered f a) (refused e) = let z : ◌≡◌ {A = ℕ} 0 1 = cc in absurd (omega arith)
  says_unique (answered f a) (answered f' a') = answers_unique a a'
