-- Replies to queries: one more, their totals, and that there are no others.
use Prim.Native.Nat.{ℕ, suc, ◌+◌, ◌<◌}
use mathlib.Core.Path.{◌≡◌, refl, ap, ◌∙◌}
use mathlib.Core.Bool.{cond}
use mathlib.Core.List.{List, [], ◌∷◌, ◌++◌, map}
use native.Mathlib.Omega.{arith}
use native.Mathlib.Numerals.{add-one}
use lib.IntN.{ℤ}
use lib.ListN.{length, get_or, take, drop, set, length-map}
use lib.Seq.{take-suc, drop-cons, set_at}
use Rattle.rules.specs.Paper.{Reply}
use Rattle.scan.specs.Fields.{none}
use Rattle.scan.specs.declared.holding.Numbers.{Numbers}
use Rattle.walks.specs.Rows.{Rows, network}
use Rattle.passing.specs.Signs.{boxes_alone, box_signs}
use Rattle.passing.specs.Passing.{passing}
use Rattle.search.specs.Says.{Answers}
use Rattle.search.proofs.SaysLaws.{answers_unique}
use Rattle.daylist.specs.Replies.{Replies, then, has_route, length_told, entry, with_route, with_none, total}

module _ {n m : ℕ} {R : Rows} {x y boxes : List ℤ} where
  snoc : {queries : List Numbers} {replies : List Reply} (q : Numbers) {reply : Reply} {route : List ℕ} → Replies n m R x y boxes queries replies
      → Answers (passing boxes_alone (box_signs x y boxes) q.second (network m R)) n q.first q.second [] reply route
      → Replies n m R x y boxes (queries ++ (q ∷ [])) (replies ++ (reply ∷ []))
  snoc q Replies.none a = then a Replies.none
  snoc q (then b more) a = then b (snoc q more a)

  -- one query more
  pub one_more : (queries : List Numbers) (i : ℕ) {replies : List Reply} {reply : Reply} {route : List ℕ} → i < length queries
      → Replies n m R x y boxes (take i queries) replies
      → let q = get_or queries i none in Answers (passing boxes_alone (box_signs x y boxes) q.second (network m R)) n q.first q.second [] reply route
      → Replies n m R x y boxes (take (i + 1) queries) (replies ++ (reply ∷ []))
  one_more queries i h r a = rw (add-one i, take-suc queries i none h) (snoc (get_or queries i none) r a)

  pub replies_long : {queries : List Numbers} {replies : List Reply} → Replies n m R x y boxes queries replies → length replies ≡ length queries
  replies_long Replies.none = refl
  replies_long (then a more) = ap suc (replies_long more)

  pub replies_unique : {queries : List Numbers} {replies replies' : List Reply} → Replies n m R x y boxes queries replies → Replies n m R x y boxes queries replies' → replies ≡ replies'
  replies_unique Replies.none Replies.none = refl
  replies_unique (then a more) (then b others) = rw ((answers_unique a b).0, replies_unique more others)

-- ---- totals of one reply more

module _ (reply : Reply) where
  pub with_route_more : (replies : List Reply) → with_route (replies ++ (reply ∷ [])) ≡ with_route replies + cond (has_route reply) 1 0
  unfolding with_route
  with_route_more [] = omega arith
  with_route_more (r ∷ rs) = let h = with_route_more rs in omega arith

  pub with_none_more : (replies : List Reply) → with_none (replies ++ (reply ∷ [])) ≡ with_none replies + cond (has_route reply) 0 1
  unfolding with_none
  with_none_more [] = omega arith
  with_none_more (r ∷ rs) = let h = with_none_more rs in omega arith

  pub total_more : (replies : List Reply) → total (replies ++ (reply ∷ [])) ≡ total replies + cond (has_route reply) (length_told reply) 0
  unfolding total
  total_more [] = omega arith
  total_more (r ∷ rs) = let h = total_more rs in omega arith

-- ---- the row of answers with one more

map_more : (replies : List Reply) (reply : Reply) → map entry (replies ++ (reply ∷ [])) ≡ map entry replies ++ (entry reply ∷ [])
map_more [] reply = refl
map_more (r ∷ rs) reply = ap (λ (l : List ℕ). entry r ∷ l) (map_more rs reply)

joined : (a : List ℕ) (v : ℕ) (b : List ℕ) → a ++ (v ∷ []) ++ b ≡ a ++ v ∷ b
joined [] v b = refl
joined (u ∷ a) v b = ap (λ (l : List ℕ). u ∷ l) (joined a v b)

pub filled_more : (replies : List Reply) (reply : Reply) (before : List ℕ) (i : ℕ) → length replies ≡ i → i < length before
    → set (map entry replies ++ drop i before) i (entry reply) ≡ map entry (replies ++ (reply ∷ [])) ++ drop (i + 1) before
filled_more replies reply before i e h =
    rw (add-one i, drop-cons before i 0 h, map_more replies reply, joined (map entry replies) (entry reply) (drop (suc i) before))
    (set_at (map entry replies) (get_or before i 0) (drop (suc i) before) (entry reply) i (length-map replies entry ∙ e))

pub length_more : (replies : List Reply) (reply : Reply) → length (replies ++ (reply ∷ [])) ≡ length replies + 1
length_more [] reply = refl
length_more (r ∷ rs) reply = let h = length_more rs reply in omega arith
