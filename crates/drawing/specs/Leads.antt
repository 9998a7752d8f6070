-- S(e) by the lengths to t, which are those of the labels of a search from t in the reverse network.
use Rattle.std.specs.Prelude.{ℕ, ◌≡◌, Bool, ◌&&◌, List, eqb}
use Rattle.walks.specs.Rows.{Rows, at}
use Rattle.settling.specs.LengthsTo.{toward_of, on_shortest}

-- an arc leads to t: it is open, its head has a length, and with the arc's weight that is its tail's
abbrev pub leads_b : List ℕ → ℕ → ℕ → ℕ → ℕ → Bool
leads_b lengths tail head weight closure = eqb closure 0 && on_shortest weight (at lengths head) (at lengths tail)

-- the arc e of the rows
unfoldable pub leads_at : Rows → List ℕ → ℕ → Bool
leads_at R lengths e = leads_b lengths (at R.tails e) (at R.heads e) (at R.weights e) (at R.closures e)

-- the lengths to t, of all nodes
unfoldable pub lengths_to : Rows → ℕ → ℕ → ℕ → List ℕ
lengths_to R n m t = (toward_of R n m t).length

-- the arc e leads to t
abbrev pub leads_to : Rows → ℕ → ℕ → ℕ → ℕ → Bool
leads_to R n m t e = leads_at R (lengths_to R n m t) e

-- ---- What becomes of arc e's mark

abbrev pub Marked : (ℕ → Bool) → ℕ → Bool → Bool → Type 0
Marked leads e old new = new ≡ leads e
