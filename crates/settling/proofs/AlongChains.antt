-- Relaxing and looking along a chain of arcs does what doing so along all arcs does.
use Prim.Native.Nat.{ℕ, zero, suc, ◌+◌}
use mathlib.Core.Path.{◌≡◌, refl, sym, ap, ◌∙◌}
use mathlib.Core.Bool.{Bool, true, false}
use mathlib.Core.List.{List, []}
use lib.ListN.{get_or}
use Rattle.walks.specs.Rows.{Rows}
use Rattle.settling.specs.declared.Labels.{Labels}
use Rattle.std.specs.Prelude.{Option, Some, None}
use Rattle.settling.specs.Labels.{offered}
use Rattle.settling.specs.Trace.{arc_fits, into_of, after_into, trace_of}
use Rattle.settling.proofs.TraceSteps.{Rest, miss, arc_other}
use Rattle.settling.specs.Settle.{arc_step, relaxed}
use Rattle.settling.proofs.SettleSteps.{relaxed_next, step_other, step_shut, step_open}
use Rattle.frontier.specs.Chain.{From}
use Rattle.frontier.proofs.Along.{along}

-- ---- Relaxing along a chain

module _ (R : Rows) (keep : ℕ → Bool) (u l k : ℕ) (L : Labels) where
  -- arcs of other nodes change nothing
  pub relaxed_from : {m j c : ℕ} → From m R.tails u j c → relaxed R keep u l k L c ≡ relaxed R keep u l k L j
  relaxed_from {j = j} f =
      along (λ (i : ℕ). relaxed R keep u l k L i ≡ relaxed R keep u l k L j) R.tails u
      (λ i n e. relaxed_next R keep u l k L i ∙ (step_other R keep u l k _ i n ∙ e)) f refl

  -- a turn, by the way it goes
  module _ {m : ℕ} (j : ℕ) {c : ℕ} {next : Labels} (inv : next ≡ relaxed R keep u l k L j) (f : From m R.tails u (j + 1) c) (out : get_or R.tails j 0 ≡ u) {r : Bool} (asked : r ≡ keep (j + 1)) where
    step : relaxed R keep u l k L c ≡ arc_step R keep u l k j next
    step = relaxed_from f ∙ (relaxed_next R keep u l k L j ∙ ap (arc_step R keep u l k j) (sym inv))

    pub turn_shut : r ≡ false → next ≡ relaxed R keep u l k L c
    turn_shut e = sym (step ∙ step_shut R keep u l k next j out (sym asked ∙ e))

    pub turn_open : {after : Labels} → r ≡ true → after ≡ offered next (get_or R.heads j 0) (l + get_or R.weights j 0) (k + 1) → after ≡ relaxed R keep u l k L c
    turn_open e q = q ∙ sym (step ∙ step_open R keep u l k next j out (sym asked ∙ e))

-- ---- Looking along a chain

-- arcs into other nodes are not found
pub rest_from : (R : Rows) (keep : ℕ → Bool) (L : Labels) (v : ℕ) (whole : Option ℕ) {m j c : ℕ}
    → From m R.heads v j c → Rest (arc_fits R keep L v) m whole j → Rest (arc_fits R keep L v) m whole c
rest_from R keep L v whole {m} f rest =
    along (Rest (arc_fits R keep L v) m whole) R.heads v (λ i n r. miss (arc_fits R keep L v) m whole i r (arc_other R keep L v i n)) f rest

-- the trace asks no settled mark
module _ (R : Rows) (keep : ℕ → Bool) (m : ℕ) (L : Labels) where
  abbrev unmarked : Labels
  unmarked = record { length = L.length; arcs = L.arcs; settled = [] }

  into_unmarked : (v : ℕ) → into_of R keep unmarked v m ≡ into_of R keep L v m
  unfolding into_of arc_fits
  into_unmarked v = refl

  after_unmarked : {go go' : ℕ → List ℕ → List ℕ} → ((v : ℕ) (row : List ℕ) → go v row ≡ go' v row) → (k : ℕ) (row : List ℕ) (p : Option ℕ)
      → after_into R keep m unmarked go k row p ≡ after_into R keep m L go' k row p
  unfolding after_into
  after_unmarked h k row None = refl
  after_unmarked h k row (Some e) = h _ _

  pub trace_unmarked : (k v : ℕ) (row : List ℕ) → trace_of R keep m unmarked k v row ≡ trace_of R keep m L k v row
  unfolding trace_of
  trace_unmarked zero v row = refl
  trace_unmarked (suc k) v row = rw (into_unmarked v) (after_unmarked (trace_unmarked k) k row (into_of R keep L v m))
