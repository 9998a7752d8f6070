-- Surplus is neither read nor written: a search is the search over the rows cut to the places that it needs, and the
-- places of the route row beyond n keep their contents.
use Prim.Native.Nat.{ℕ, ◌+◌, ◌-◌, ◌≤◌}
use mathlib.Core.Path.{◌≡◌, refl, sym, ap, ◌∙◌}
use mathlib.Core.Bool.{Bool}
use mathlib.Core.Logic.{inl, inr}
use mathlib.Core.List.{List, ◌++◌}
use native.Mathlib.Omega.{arith}
use lib.ListN.{length, take, drop}
use lib.Seq.{take-append-add, drop-append-add, take-add, drop_at, drop-drop, length-take-le}
use Rattle.rules.specs.Paper.{Reply}
use Rattle.rules.specs.declared.Asked.{Asked}
use Rattle.rules.specs.Judging.{Judged, fine}
use Rattle.walks.specs.Walk.{Net, kept}
use Rattle.walks.specs.Rows.{Rows, laid, network}
use Rattle.walks.specs.Search.{Found}
use Rattle.walks.proofs.SearchLaws.{found_unique, not_both}
use Rattle.std.proofs.lemmas.Bool.{cases_Bool}
use Rattle.settling.specs.Run.{search_of}
use Rattle.settling.proofs.SearchIsRight.{search_found, search_missed}
use Rattle.passing.specs.Signs.{Signs}
use Rattle.passing.specs.Passing.{passing}
use Rattle.passing.proofs.PassingLaws.{same_tail, same_head, same_weight, passing_in, in_passing, tested_arcs}
use Rattle.judging.specs.Cut.{cut, cut_signs}
use Rattle.judging.proofs.CutLaws.{at_cut, place-cut, box-cut, search_judged_cut}
use Rattle.judging.proofs.FineLaws.{SearchLent, search_fine}
use Rattle.search.specs.Says.{Answers, found, none, Says, refused, answered, SearchBy}
use Rattle.search.proofs.SaysLaws.{says_unique}
use Rattle.walks.proofs.Alike.{Alike, other_way, found_alike, no_walk_alike}
use Rattle.search.proofs.Cut.{network-cut, arc_in}

-- ---- The route row

pub row_cut : (route before : List ℕ) (n : ℕ) → length route ≤ n → n ≤ length before
    → (take n (route ++ drop (length route) before) ≡ route ++ drop (length route) (take n before)) × (drop n (route ++ drop (length route) before) ≡ drop n before)
row_cut route before n short long =
    let k = length route in
    let j = n - k in
    let e : n ≡ k + j = omega arith in
    let rest : drop k (take (k + j) before) ≡ take j (drop k before) =
    ap (drop k) (take-add k j before) ∙ drop_at (take k before) (take j (drop k before)) k (length-take-le k before (omega arith)) in
    (rw (e, rest) (take-append-add route (drop k before) j), rw e (drop-append-add route (drop k before) j ∙ drop-drop j k before))

-- a route has fewer arcs than there are nodes
short :
    {n m : ℕ} {R : Rows} (keep : ℕ → Bool) {N : Net} {s t : ℕ} (before : List ℕ) → SearchLent n m R s t (length before) → Alike N (kept keep (laid m R))
    → (d k c : ℕ) (route : List ℕ) → Found N n s t d k c route → length route ≤ n
short {n} {m} {R} keep {N} {s} {t} before l x d k c route f = elim (cases_Bool (search_of R keep n m t s).found) [
  | inl e ↦
      let a = search_found l.sound l.source_low l.source_high t e before l.room in
      omega (arith, ap length (found_unique (found_alike x f) a.found).route, a.count, a.few)
  | inr e ↦ absurd (not_both (found_alike x f) (search_missed l.sound l.source_low l.source_high t e))
]

module _ {N F : Net} {n s t : ℕ} {before : List ℕ} where
  answers-cut : Alike N F → n ≤ length before → ((d k c : ℕ) (route : List ℕ) → Found N n s t d k c route → length route ≤ n)
      → {reply : Reply} {after : List ℕ} → Answers N n s t before reply after → Answers F n s t (take n before) reply (take n after) × (drop n after ≡ drop n before)
  answers-cut x long few (found {d = d} {k = k} {c = c} {arcs = route} f) =
      let r = row_cut route before n (few d k c route f) long in
      (rw r.0 (found (found_alike x f)), r.1)
  answers-cut x long few (none f) = (none (no_walk_alike x f), refl)

  says_cut : {judged judged' : Judged} → judged' ≡ judged
      → (judged ≡ fine → Alike N F × (n ≤ length before) × ((d k c : ℕ) (route : List ℕ) → Found N n s t d k c route → length route ≤ n))
      → {reply : Reply} {after : List ℕ} → Says judged N n s t before reply after → Says judged' F n s t (take n before) reply (take n after) × (drop n after ≡ drop n before)
  says_cut e h (refused q) = (refused (e ∙ q), refl)
  says_cut e h (answered q a) = let y = h q in let z = answers-cut y.0 y.1 y.2 a in (answered (e ∙ q) z.0, z.1)

-- ---- The laws

-- the arcs that pass by cut rows are those that pass by the whole ones
pub passing-cut : (asked : Asked) (n m : ℕ) (R : Rows) (G : Signs) (t : ℕ) → 1 ≤ t → t ≤ n
    → Alike (passing asked G t (network m R)) (passing asked (cut_signs n m G) t (network m (cut m R)))
passing-cut asked n m R G t low high =
    let N = network m R in
    let F = network m (cut m R) in
    let H = cut_signs n m G in
    let x = network-cut m R in
    record {
      there = λ e a.
          let p = passing_in asked G t N e a in
          let i = arc_in m R e p.0 in
          in_passing asked H t F e (x.there e p.0) (record {
            box = λ h. rw (box-cut m G.boxes e i.0 i.1, place-cut n G.x t low high, place-cut n G.y t low high) (p.1.box h);
            mask = λ h. rw (at_cut m G.masks e i.0 i.1, at_cut n G.modules t low high) (p.1.mask h);
          });
      back = λ e a.
          let p = passing_in asked H t F e a in
          let i = arc_in m (cut m R) e p.0 in
          in_passing asked G t N e (x.back e p.0) (record {
            box = λ h. rw (box-cut m G.boxes e i.0 i.1, place-cut n G.x t low high, place-cut n G.y t low high) at (p.1.box h);
            mask = λ h. rw (at_cut m G.masks e i.0 i.1, at_cut n G.modules t low high) at (p.1.mask h);
          });
      tail = λ e a. same_tail G t N e asked.boxes asked.masks ∙ x.tail e (passing_in asked G t N e a).0 ∙ sym (same_tail H t F e asked.boxes asked.masks);
      head = λ e a. same_head G t N e asked.boxes asked.masks ∙ x.head e (passing_in asked G t N e a).0 ∙ sym (same_head H t F e asked.boxes asked.masks);
      weight = λ e a. same_weight G t N e asked.boxes asked.masks ∙ x.weight e (passing_in asked G t N e a).0 ∙ sym (same_weight H t F e asked.boxes asked.masks);
    }

pub search_cut : (asked : Asked) (n m : ℕ) (R : Rows) (G : Signs) (s t : ℕ) (before : List ℕ) {reply : Reply} {after : List ℕ} → SearchBy asked n m R G s t before reply after
    → SearchBy asked n m (cut m R) (cut_signs n m G) s t (take n before) reply (take n after) × (drop n after ≡ drop n before)
search_cut asked n m R G s t before says =
    says_cut (search_judged_cut n m R asked G s t before) (λ e.
    let f = search_fine asked n m R G s t (length before) e in
    let l = f.0 in
    (passing-cut asked n m R G t l.target_low l.target_high, l.room, short _ before l (other_way (tested_arcs asked G t m R (λ h. ((f.1.lent.modules h).numbers t l.target_low l.target_high).0))))) says

-- two calls whose rows agree on the places that are needed have the same reply and write the same
pub search_surplus : (asked : Asked) (n m : ℕ) (R R' : Rows) (G G' : Signs) (s t : ℕ) (before before' : List ℕ) {reply reply' : Reply} {after after' : List ℕ}
    → cut m R ≡ cut m R' → cut_signs n m G ≡ cut_signs n m G' → take n before ≡ take n before'
    → SearchBy asked n m R G s t before reply after → SearchBy asked n m R' G' s t before' reply' after' → (reply ≡ reply') × (take n after ≡ take n after')
search_surplus asked n m R R' G G' s t before before' rows signs route p q =
    says_unique (rw (rows, signs, route) at (search_cut asked n m R G s t before p).0) (search_cut asked n m R' G' s t before' q).0
