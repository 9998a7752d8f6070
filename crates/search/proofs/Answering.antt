-- What the search by labels gives is an answer.
use Prim.Native.Nat.{ℕ, ◌+◌, ◌≤◌}
use native.Mathlib.Omega.{arith}
use mathlib.Core.Path.{◌≡◌}
use mathlib.Core.Bool.{Bool, true, false}
use mathlib.Core.Logic.{inl, inr}
use mathlib.Core.List.{List}
use lib.ListN.{length}
use Rattle.rules.specs.declared.Refusal.TheVariants.{NoWalk}
use Rattle.walks.specs.Walk.{Net, kept}
use Rattle.walks.specs.Rows.{Rows, Sound, laid}
use Rattle.walks.proofs.CountLaws.{count_most}
use Rattle.walks.specs.Settled as counts
use Rattle.settling.specs.declared.Outcome.{Outcome}
use Rattle.settling.specs.Labels.{length_of, arcs_of}
use Rattle.settling.specs.Run.{search_of}
use Rattle.settling.specs.Trace.{trace_of}
use Rattle.std.proofs.lemmas.Bool.{cases_Bool}
use Rattle.settling.proofs.SearchIsRight.{search_found, search_missed}
use Rattle.std.specs.Prelude.{Ok, Err}
use Rattle.search.specs.Paper.{paper}
use Rattle.search.specs.Says.{Answers, found, none}

settled_small : {N : Net} {n s t c : ℕ} → counts.Settled N n s t c → c ≤ n + 1
settled_small (counts.found b p) = omega (arith, count_most p)
settled_small (counts.missed h p) = omega (arith, count_most p)

-- o is what the run ends with, and row the route row before
module _
    {R : Rows} {n m : ℕ} (sound : Sound n m R) (keep : ℕ → Bool) (s t : ℕ) (low : 1 ≤ s) (high : s ≤ n)
    (row : List ℕ) (long : n ≤ length row) {o : Outcome} (run : o ≡ search_of R keep n m t s)
  where
    pub count_small : o.count ≤ 513
    count_small = rw run (elim (cases_Bool (search_of R keep n m t s).found) [
      | inl e ↦ omega (arith, settled_small (search_found sound low high t e row long).found.settled, sound.nodes_high)
      | inr e ↦ omega (arith, settled_small (search_missed sound {keep = keep} low high t e).settled, sound.nodes_high)
    ])

    pub none_answers : o.found ≡ false → Answers (kept keep (laid m R)) n s t row (paper (Err (NoWalk o.count))) row
    none_answers e = rw run (none (search_missed sound low high t (rw run at e)))

    module _ (e : o.found ≡ true) where
      pub route-fits : arcs_of o.labels t ≤ length row
      route-fits = rw run (let a = search_found sound low high t (rw run at e) row long in omega (arith, a.few))

      pub found-answers : {after : List ℕ} → after ≡ trace_of R keep m o.labels (arcs_of o.labels t) t row
          → Answers (kept keep (laid m R)) n s t row (paper (Ok (record { length = length_of o.labels t; arcs = arcs_of o.labels t; settled = o.count }))) after
      found-answers h = rw h (rw run (let a = search_found sound low high t (rw run at e) row long in rw a.written (found a.found)))
