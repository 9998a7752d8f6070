-- The route, traced back from the target by the labels.
use Rattle.std.specs.Prelude.{ℕ, zero, suc, ◌+◌, Bool, false, cond, ◌&&◌, List, get_or, set, eqb, Option, Some, None}
use Rattle.walks.specs.Rows.{Rows, at}
use Rattle.settling.specs.declared.Labels.{Labels}
use Rattle.settling.specs.Labels.{length_of, arcs_of}

-- a step of weight w leads from the label (l, k) to the label (l', k')
unfoldable pub fits : ℕ → ℕ → ℕ → ℕ → ℕ → Bool
fits l k w l' k' = cond (eqb (l + w) l') (eqb (k + 1) k') false

-- of f places from j on, the first that passes a test, as an arc number
unfoldable pub first_of : (ℕ → Bool) → ℕ → ℕ → Option ℕ
first_of test zero j = None
first_of test (suc f) j = cond (test j) (Some (j + 1)) (first_of test f (j + 1))

module _ (R : Rows) (keep : ℕ → Bool) where
  -- the arc at place j leads into v, may be used, and fits the labels of its ends
  unfoldable pub arc_fits : Labels → ℕ → ℕ → Bool
  arc_fits L v j =
      let u = get_or R.tails j 0 in
      eqb (get_or R.heads j 0) v
      && (keep (j + 1) && fits (length_of L u) (arcs_of L u) (get_or R.weights j 0) (length_of L v) (arcs_of L v))

  -- the lowest-numbered arc by which v has its label
  unfoldable pub into_of : Labels → ℕ → ℕ → Option ℕ
  into_of L v m = first_of (arc_fits L v) m 0

  module _ (m : ℕ) (L : Labels) where
    -- what is done with the arc into a node; `go` is the rest of the trace
    unfoldable pub after_into : (ℕ → List ℕ → List ℕ) → ℕ → List ℕ → Option ℕ → List ℕ
    after_into go k row None = row
    after_into go k row (Some e) = go (at R.tails e) (set row k e)

    -- the row after k arcs back from v, the last of them written at place k - 1
    unfoldable pub trace_of : ℕ → ℕ → List ℕ → List ℕ
    trace_of zero v row = row
    trace_of (suc k) v row = after_into (trace_of k) k row (into_of L v m)
