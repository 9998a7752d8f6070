-- What a run along chained arcs tells of a query.
use Prim.Native.Nat.{ℕ, ◌≤◌}
use mathlib.Core.Path.{◌≡◌, refl, sym}
use mathlib.Core.Bool.{Bool, true, false, false≢true}
use mathlib.Core.List.{List, [], ◌∷◌}
use mathlib.Core.Logic.{inl, inr}
use native.Mathlib.Omega.{arith}
use lib.IntN.{ℤ}
use lib.ListN.{replicate, length-replicate}
use lib.Dec.{ltb}
use borrow.Author.Tests.{lt-ltb, le-ltb}
use Rattle.std.specs.Prelude.{Option, Some, None}
use Rattle.std.specs.Option.{unwrap_or}
use Rattle.rules.specs.Paper.{accepted, refusal}
use Rattle.rules.specs.declared.Refusal.TheVariants.{NoWalk}
use Rattle.walks.specs.Walk.{kept}
use Rattle.walks.specs.Rows.{Rows, network, laid, Sound}
use Rattle.walks.proofs.Alike.{Alike, found_alike, no_walk_alike}
use Rattle.passing.specs.Signs.{boxes_alone, box_signs}
use Rattle.passing.specs.Passing.{passing}
use Rattle.passing.specs.Asking.{tests_toward, keeps}
use Rattle.passing.proofs.PassingLaws.{tested_arcs}
use Rattle.settling.specs.declared.Outcome.{Outcome}
use Rattle.settling.specs.Labels.{length_of, arcs_of}
use Rattle.settling.specs.Run.{search_of}
use Rattle.std.proofs.lemmas.Bool.{cases_Bool}
use Rattle.settling.proofs.SearchIsRight.{search_found, search_missed}
use Rattle.search.specs.Says.{found, none}
use Rattle.daylist.specs.Replies.{has_route, no_route}
use Rattle.daylist.specs.Steps.{Queried}

module _ {n m : ℕ} {R : Rows} (sound : Sound n m R) (x y boxes : List ℤ) (s t : ℕ) (low : 1 ≤ s) (high : s ≤ n) where
  -- the arcs that the search may use
  abbrev keep : ℕ → Bool
  keep = keeps (tests_toward boxes_alone x y [] t) R.closures boxes []

  held-arcs : Alike (kept keep (laid m R)) (passing boxes_alone (box_signs x y boxes) t (network m R))
  held-arcs = tested_arcs boxes_alone (box_signs x y boxes) t m R (λ h. absurd (false≢true h))

  missed_asked : (search_of R keep n m t s).found ≡ false → Queried n m R x y boxes s t None
  missed_asked e = record {
    reply = refusal (NoWalk (search_of R keep n m t s).count);
    route = [];
    answers = none (no_walk_alike held-arcs (search_missed sound low high t e));
    told = refl;
    near = λ z. absurd (false≢true z);
  }

  found-asked : (search_of R keep n m t s).found ≡ true → Queried n m R x y boxes s t (Some (length_of (search_of R keep n m t s).labels t))
  found-asked e =
      let o = search_of R keep n m t s in
      let a = search_found sound low high t e (replicate n 0) (omega (arith, length-replicate {A = ℕ} n 0)) in
      record {
        reply = accepted (length_of o.labels t ∷ arcs_of o.labels t ∷ o.count ∷ []);
        route = _;
        answers = found (found_alike held-arcs a.found);
        told = refl;
        near = λ z. a.near;
      }

  -- o is what the run ends with
  module _ {o : Outcome} (run : o ≡ search_of R keep n m t s) where
    pub none_told : o.found ≡ false → Queried n m R x y boxes s t None
    none_told e = missed_asked (rw run at e)

    pub length_told_lem : o.found ≡ true → Queried n m R x y boxes s t (Some (length_of o.labels t))
    length_told_lem e = rw run (found-asked (rw run at e))

  -- so every query has an answer
  pub some_asked : (l : Option ℕ) × Queried n m R x y boxes s t l
  some_asked = elim (cases_Bool (search_of R keep n m t s).found) [
    | inl e ↦ (Some (length_of (search_of R keep n m t s).labels t), found-asked e)
    | inr e ↦ (None, missed_asked e)
  ]

-- the mark tells whether there is a route
pub told-route : {n m : ℕ} {R : Rows} {x y boxes : List ℤ} {s t : ℕ} {l : Option ℕ} (a : Queried n m R x y boxes s t l) → has_route a.reply ≡ ltb (unwrap_or l no_route) no_route
told-route {l = l} a = by_route (has_route a.reply) refl
  where
    by_route : (z : Bool) → has_route a.reply ≡ z → z ≡ ltb (unwrap_or l no_route) no_route
    by_route true e = rw (a.told, e) (sym (lt-ltb _ no_route (omega (arith, a.near e))))
    by_route false e = rw (a.told, e) (sym (le-ltb no_route no_route (omega arith)))
