-- Request b: what a closed track is. Each statement is proved, under the name that stands with it, in proofs/Closing.antt.
use Rattle.std.specs.Prelude.{ℕ, ◌<◌, ◌≡◌, ◌≢◌, List, [], ◌∷◌, ℤ, get_or}
use Rattle.rules.specs.declared.Asked.{Asked}
use Rattle.rules.specs.Paper.{accepted}
use Rattle.walks.specs.Rows.{Rows, at, network}
use Rattle.walks.specs.Through.{InS}
use Rattle.passing.specs.Signs.{Signs}
use Rattle.search.specs.Says.{SearchBy}
use Rattle.boxwork.specs.Says.{UpdateSays}

-- the arc stands in none of the row's first k places
abbrev pub NotAmong : ℕ → ℕ → List ℕ → Type 0
NotAmong arc k row = (i : ℕ) → i < k → get_or row i 0 ≢ arc

module _ (n m : ℕ) (R : Rows) where
  -- "S(e) of a closed arc is empty." `closed_empty`
  abbrev pub ClosedEmpty : Type 0
  ClosedEmpty = (e t : ℕ) → at R.closures e ≡ 1 → ¬ InS (network m R) e t

  module _ (x y before : List ℤ) (arc weight : ℕ) (R' : Rows) (boxes : List ℤ) where
    -- After an update that closes an arc no search uses it, whatever it goes by. `search_after_closing`
    abbrev pub SearchAfterClosing : Type 0
    SearchAfterClosing =
        UpdateSays n m R x y before arc weight 1 (accepted []) R' boxes → (asked : Asked) (G : Signs) (s t : ℕ) (row after : List ℕ) (d k c : ℕ)
        → SearchBy asked n m R' G s t row (accepted (d ∷ k ∷ c ∷ [])) after → NotAmong arc k after
