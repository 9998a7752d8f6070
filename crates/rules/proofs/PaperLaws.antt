-- No two refusals have the same number and values, and none has the number of an accepted call.
use Prim.Native.Nat.{ℕ, zero, suc, ◌+◌, ◌≤◌}
use mathlib.Core.Path.{◌≡◌, refl, sym, ap, ◌∙◌}
use mathlib.Core.Logic.{inl, inr}
use mathlib.Core.List.{List, [], ◌∷◌}
use native.Mathlib.Omega.{arith}
use lib.ListN.{length}
use denote.Struct.Field.{Field, u32-field}
use denote.Struct.Values.{Values}
use denote.Enum.Declared.{Choice}
use Rattle.rules.specs.Judging.{Judged}
use Rattle.rules.specs.Paper.{Reply, refusal, judged_reply}
use Rattle.rules.specs.declared.Refusal.{Refusal}
use Rattle.rules.specs.declared.Refusal.TheVariants.{TextTooLong, RowTooShort, EmptyLine, OutOfOrder, BeyondLimits, CountsDisagree, NodeAgain, BadArc, BadCoordinate, BadBox, NotInNetwork, NoWalk, Misses, BadClosure, NoLetter, Misspelt, FieldCount, BadModule}
use Rattle.std.specs.Prelude.{Ok, Err}
use Rattle.rules.specs.contracts.Refusal.{the_parts as parts, as_values, the_make as make, the_eta as eta}

-- cases that hold so many numbers each
abbrev numbers : ℕ → List Field
numbers zero = []
numbers (suc k) = u32-field ∷ numbers k

abbrev cases : List ℕ → List (List Field)
cases [] = []
cases (k ∷ ks) = numbers k ∷ cases ks

abbrev listed : (k : ℕ) → Values (numbers k) → List ℕ
listed zero xs = []
listed (suc k) xs = xs.0 ∷ listed k xs.1

-- the number of the first case is n, that of the next n + 1
abbrev in_order : (ks : List ℕ) → ℕ → Choice (cases ks) → Reply
in_order [] n c = absurd c
in_order (k ∷ ks) n (inl xs) = record { number = n; values = listed k xs }
in_order (k ∷ ks) n (inr c) = in_order ks (n + 1) c

from_first : (ks : List ℕ) (n : ℕ) (c : Choice (cases ks)) → n ≤ (in_order ks n c).number
from_first [] n c = absurd c
from_first (k ∷ ks) n (inl xs) = omega arith
from_first (k ∷ ks) n (inr c) = omega (arith, from_first ks (n + 1) c)

listed_one : (k : ℕ) (xs ys : Values (numbers k)) → listed k xs ≡ listed k ys → xs ≡ ys
listed_one zero xs ys e = refl
listed_one (suc k) xs ys e =
    let one : xs.0 ≡ ys.0 = cc in
    let more : listed k xs.1 ≡ listed k ys.1 = cc in
    λ i. (one i, listed_one k xs.1 ys.1 more i)

in_order_one : (ks : List ℕ) (n : ℕ) (c e : Choice (cases ks)) → in_order ks n c ≡ in_order ks n e → c ≡ e
in_order_one [] n c e p = absurd c
in_order_one (k ∷ ks) n (inl xs) (inl ys) p = ap inl (listed_one k xs ys (ap (λ (x : Reply). x.values) p))
in_order_one (k ∷ ks) n (inl xs) (inr e) p = let q : n ≡ (in_order ks (n + 1) e).number = ap (λ (x : Reply). x.number) p in absurd (omega (arith, from_first ks (n + 1) e))
in_order_one (k ∷ ks) n (inr c) (inl ys) p = let q : (in_order ks (n + 1) c).number ≡ n = ap (λ (x : Reply). x.number) p in absurd (omega (arith, from_first ks (n + 1) c))
in_order_one (k ∷ ks) n (inr c) (inr e) p = ap inr (in_order_one ks (n + 1) c e p)

-- how many values each case has
abbrev sizes : List (List Field) → List ℕ
sizes [] = []
sizes (Fs ∷ Fss) = length Fs ∷ sizes Fss

-- the paper's table is the enum's order
table_order : (r : Refusal) → refusal r ≡ in_order (sizes parts) 1 (as_values r)
table_order TextTooLong = refl
table_order RowTooShort = refl
table_order (EmptyLine line column) = refl
table_order (OutOfOrder line) = refl
table_order (BeyondLimits line) = refl
table_order (CountsDisagree line) = refl
table_order (NodeAgain line) = refl
table_order (BadArc arc) = refl
table_order (BadCoordinate node) = refl
table_order (BadBox arc) = refl
table_order NotInNetwork = refl
table_order (NoWalk settled) = refl
table_order (Misses arc node) = refl
table_order (BadClosure arc) = refl
table_order (NoLetter line column) = refl
table_order (Misspelt line column) = refl
table_order (FieldCount line column) = refl
table_order (BadModule node) = refl

pub refusal_nonzero : (r : Refusal) → 0 ≡ (refusal r).number → ⊥
refusal_nonzero r e = let n = ap (λ (x : Reply). x.number) (table_order r) in omega (arith, from_first (sizes parts) 1 (as_values r), n)

pub refusal_injective : (a b : Refusal) → refusal a ≡ refusal b → a ≡ b
refusal_injective a b e = sym (eta a) ∙ ap make (in_order_one (sizes parts) 1 (as_values a) (as_values b) (sym (table_order a) ∙ e ∙ table_order b)) ∙ eta b

pub judged_injective : (a b : Judged) → judged_reply a ≡ judged_reply b → a ≡ b
judged_injective (Ok _) (Ok _) e = refl
judged_injective (Ok _) (Err r) e = absurd (refusal_nonzero r (ap (λ (x : Reply). x.number) e))
judged_injective (Err r) (Ok _) e = absurd (refusal_nonzero r (ap (λ (x : Reply). x.number) (sym e)))
judged_injective (Err a) (Err b) e = ap Err (refusal_injective a b e)
