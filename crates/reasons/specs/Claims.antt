-- What request e claims, about the contracts' own relations. proofs/Claims.antt proves each under the same name.
use Rattle.std.specs.Prelude.{ℕ, ◌+◌, ◌<◌, ◌≡◌, ◌↔◌, List, [], ◌∷◌, take}
use Rattle.rules.specs.Paper.{Reply, accepted}
use Rattle.walks.specs.Walk.{Net}
use Rattle.walks.specs.Rows.{Rows, network}
use Rattle.walks.specs.Least.{Reached, Dist}
use Rattle.search.specs.Says.{SearchSays}
use Rattle.reasons.specs.Using.{Among, Uses, BestThrough}
use Rattle.reasons.specs.declared.Reason.{Reason}
use Rattle.reasons.specs.declared.Reason.TheVariants.{OnRoute as on_route}
use Rattle.reasons.specs.Reason.{number, True}
use Rattle.reasons.specs.Paper.{told}
use Rattle.reasons.specs.Says.{WhySays}

-- For each input there is exactly one reply: one refusal, or one reason.
abbrev pub ExactlyOne : Type 0
ExactlyOne =
    (n m : ℕ) (R : Rows) (s t arc : ℕ)
    → (reply : Reply) × (WhySays n m R s t arc reply) × ((other : Reply) → WhySays n m R s t arc other → other ≡ reply)

-- l is d(s,u) + w + d(v,t), for e = (u,v) of weight w
pub record Sum (N : Net) (s t e l : ℕ) : Type 0 where
  pub before : ℕ
  pub after : ℕ
  pub arc : N.Arc e
  pub to_tail : Dist N s (N.tail e) before
  pub from_head : Dist N (N.head e) t after
  pub sum : l ≡ before + N.weight e + after

-- The best walk through e has length d(s,u) + w + d(v,t).
abbrev pub ThroughSum : Type 1
ThroughSum = (N : Net) (s t e l : ℕ) → BestThrough N s t e l ↔ Sum N s t e l

-- And no walk uses an open arc exactly when there is no walk to its start, or none from its end.
abbrev pub NoneThrough : Type 1
NoneThrough = (N : Net) (s t e : ℕ) → N.Arc e → ((l : ℕ) → ¬ Uses N s t e l) ↔ ¬ (Reached N s (N.tail e) × Reached N (N.head e) t)

-- Where the search without boxes finds a route of k arcs, these stand in the first k places of its row afterwards. 5 is replied exactly
-- when the arc is one of them,
abbrev pub FiveExactly : Type 0
FiveExactly =
    (n m : ℕ) (R : Rows) (s t arc : ℕ) (before after : List ℕ) (d k c : ℕ) (reply : Reply)
    → SearchSays n m R s t before (accepted (d ∷ k ∷ c ∷ [])) after → WhySays n m R s t arc reply
    → (reply ≡ told on_route) ↔ Among arc (take k after)

-- and then none of 1 to 4 is true.
abbrev pub NoneOfFour : Type 0
NoneOfFour =
    (n m : ℕ) (R : Rows) (s t arc : ℕ) (before after : List ℕ) (d k c : ℕ)
    → SearchSays n m R s t before (accepted (d ∷ k ∷ c ∷ [])) after → Among arc (take k after)
    → (q : Reason) → number q < 5 → ¬ True (network m R) s t arc q
