-- Laws of answering a list, query after query.
use Prim.Native.Nat.{ℕ, ◌+◌, ◌*◌, ◌≤◌, ◌<◌}
use mathlib.Core.Path.{◌≡◌, refl, ap, subst₂, ◌∙◌}
use mathlib.Core.Bool.{Bool, true, false, cond}
use mathlib.Core.List.{List, [], ◌∷◌, ◌++◌}
use native.Mathlib.Omega.{arith}
use Rattle.std.specs.Prelude.{Option, Some, None}
use Rattle.std.specs.Option.{unwrap_or}
use lib.IntN.{ℤ}
use lib.ListN.{length, get_or, set, length-set}
use Rattle.scan.specs.Fields.{none}
use Rattle.scan.specs.declared.holding.Numbers.{Numbers}
use Rattle.walks.specs.Rows.{Rows, network}
use Rattle.passing.specs.Signs.{boxes_alone, box_signs}
use Rattle.passing.specs.Passing.{passing}
use Rattle.search.specs.Says.{Answers}
use Rattle.daylist.specs.Replies.{Replies, has_route, length_told, no_route, with_route, with_none, total}
use Rattle.daylist.specs.Steps.{Queried, counted, InRows, Answered}
use Rattle.daylist.specs.declared.Totals.{Totals}
use Rattle.daylist.proofs.ReplyLaws.{one_more, with_route_more, with_none_more, total_more, filled_more, length_more}

module _ (n m : ℕ) (R : Rows) (x y boxes : List ℤ) where
  -- what holds where i of k queries are answered
  pub record Going (k : ℕ) (sources targets before after : List ℕ) (T : Totals) (i : ℕ) : Type 0 where
    pub below : i ≤ k
    pub long : length after ≡ length before
    pub few_found : T.found ≤ i
    pub few_none : T.none ≤ i
    pub small : T.sum ≤ i * 511_000_000
    pub each : (queries : List Numbers) → length queries ≡ k → InRows queries sources targets → Answered n m R x y boxes queries i before after T

  pub going_start : (k : ℕ) (sources targets before : List ℕ) → Going k sources targets before before (record { found = 0; none = 0; sum = 0 }) 0
  unfolding with_route with_none total
  going_start k sources targets before = record {
    below = omega arith;
    long = refl;
    few_found = omega arith;
    few_none = omega arith;
    small = omega arith;
    each = λ queries e h. record { replies = []; each = Replies.none; count = refl; filled = refl; found = refl; without = refl; sum = refl };
  }

  -- ---- one query more

  module _ (k : ℕ) (sources targets before after : List ℕ) (T : Totals) (i : ℕ) (g : Going k sources targets before after T i) (more : i < k) (room : k ≤ length before)
      (s t : ℕ) (l : Option ℕ) (es : s ≡ get_or sources i 0) (et : t ≡ get_or targets i 0) (a : Queried n m R x y boxes s t l) where
    -- the totals and the entry, by whether there is a route
    sums : (r : ℕ) (h : Bool) (T' : Totals) → l ≡ cond h (Some r) None → T' ≡ counted T l
        → (T'.found ≡ T.found + cond h 1 0) × (T'.none ≡ T.none + cond h 0 1) × (T'.sum ≡ T.sum + cond h r 0) × (unwrap_or l no_route ≡ cond h r no_route)
    sums r true T' e d = rw (d, e) (refl, omega arith, refl, refl)
    sums r false T' e d = rw (d, e) (omega arith, refl, omega arith, refl)

    one : (h : Bool) → (cond h 1 0 ≤ 1) × (cond h 0 1 ≤ 1)
    one true = (omega arith, omega arith)
    one false = (omega arith, omega arith)

    short : (h : Bool) → has_route a.reply ≡ h → cond h (length_told a.reply) 0 ≤ 511_000_000
    short true e = a.near e
    short false e = omega arith

    -- the answer is that of the query at place i
    of_query : (queries : List Numbers) → length queries ≡ k → InRows queries sources targets
        → let q = get_or queries i none in Answers (passing boxes_alone (box_signs x y boxes) q.second (network m R)) n q.first q.second [] a.reply a.route
    of_query queries e h =
        let low : i < length queries = omega arith in
        subst₂ (λ (u v : ℕ). Answers (passing boxes_alone (box_signs x y boxes) v (network m R)) n u v [] a.reply a.route) (es ∙ h.source i low) (et ∙ h.target i low) a.answers

    pub going_on : (T' : Totals) → T' ≡ counted T l → Going k sources targets before (set after i (unwrap_or l no_route)) T' (i + 1)
    going_on T' d =
        let reply = a.reply in
        let s = sums (length_told reply) (has_route reply) T' a.told d in
        let b = one (has_route reply) in
        let c = short (has_route reply) refl in
        record {
          below = omega arith;
          long = length-set after i (unwrap_or l no_route) ∙ g.long;
          few_found = omega (arith, s.0, b.0, g.few_found);
          few_none = omega (arith, s.1, b.1, g.few_none);
          small = omega (arith, s.2, c, g.small);
          each = λ queries e h.
              let A = g.each queries e h in
              record {
                replies = A.replies ++ (reply ∷ []);
                each = one_more queries i (omega arith) A.each (of_query queries e h);
                count = length_more A.replies reply ∙ ap (λ (j : ℕ). j + 1) A.count;
                filled = rw (A.filled, s.3) (filled_more A.replies reply before i A.count (omega arith));
                found = omega (arith, s.0, A.found, with_route_more reply A.replies);
                without = omega (arith, s.1, A.without, with_none_more reply A.replies);
                sum = omega (arith, s.2, A.sum, total_more reply A.replies);
              };
        }
