-- What build, check and update say: for each the one relation between what is lent, the reply and the rows afterwards.
use Rattle.std.specs.Prelude.{ℕ, ◌-◌, ◌≡◌, false, List, [], ℤ, set, Err}
use Rattle.rules.specs.Paper.{Reply, accepted, refusal}
use Rattle.rules.specs.declared.Asked.{Asked}
use Rattle.rules.specs.Judging.{Judged, fine}
use Rattle.rules.specs.declared.Refusal.{Refusal}
use Rattle.rules.specs.declared.Refusal.TheVariants.{Misses}
use Rattle.walks.specs.Walk.{Net}
use Rattle.walks.specs.Rows.{Rows, network}
use Rattle.walks.specs.Through.{Consistent}
use Rattle.walks.specs.Checking.{FirstMissed}
use Rattle.passing.specs.Signs.{Signs, boxes_alone, box_signs}
use Rattle.passing.specs.Passing.{Keeps}
use Rattle.drawing.specs.Drawn.{Drawn, DrawnIf, box_row, mask_row}
use Rattle.boxwork.specs.Tight.{Tight, Updated}
use Rattle.boxwork.specs.Masks.{MaskOf}
use Rattle.judging.specs.Order.{build_judged, check_judged, update_judged}

-- ---- By a judgement of what is lent, over a network

-- Build: the tight boxes and the masks of the arcs 1..m stand in the rows, each where it is asked; their other places, and a row
-- that is not asked, keep their contents. A refusal leaves both rows as they were.
pub data Builds (judged : Judged) (N : Net) (m : ℕ) (asked : Asked) (G : Signs) : Reply → List ℤ → List ℕ → Type 0 where
  refused : {r : Refusal} → judged ≡ Err r → Builds judged N m asked G (refusal r) G.boxes G.masks
  built : {boxes : List ℤ} {masks : List ℕ} → judged ≡ fine
      → DrawnIf asked.boxes box_row m (λ e old new. Tight N G.x G.y e new) G.boxes boxes
      → DrawnIf asked.masks mask_row m (λ e old new. MaskOf N G.modules e new) G.masks masks
      → Builds judged N m asked G (accepted []) boxes masks

-- of what is asked, the boxes alone, and the masks alone
abbrev pub boxes_of : Asked → Asked
boxes_of asked = record { boxes = asked.boxes; masks = false }

abbrev pub masks_of : Asked → Asked
masks_of asked = record { boxes = false; masks = asked.masks }

-- Check: yes where what is asked is consistent, else 13 with the lowest arc and then its lowest missed node, boxes first
pub data Checks (judged : Judged) (N : Net) (asked : Asked) (G : Signs) : Reply → Type 0 where
  refused : {r : Refusal} → judged ≡ Err r → Checks judged N asked G (refusal r)
  consistent : judged ≡ fine → Consistent N (Keeps asked G) → Checks judged N asked G (accepted [])
  box_missed : {e t : ℕ} → judged ≡ fine → FirstMissed N (Keeps (boxes_of asked) G) e t → Checks judged N asked G (refusal (Misses e t))
  mask_missed : {e t : ℕ} → judged ≡ fine → Consistent N (Keeps (boxes_of asked) G) → FirstMissed N (Keeps (masks_of asked) G) e t
      → Checks judged N asked G (refusal (Misses e t))

-- Update from the rows R to the rows R', whose network is N: each box is the smallest that holds its old box and its tight box in N.
-- The other places of the row keep their contents. A refusal leaves all rows as they were.
pub data Updates (judged : Judged) (R R' : Rows) (N : Net) (m : ℕ) (x y before : List ℤ) : Reply → Rows → List ℤ → Type 0 where
  refused : {r : Refusal} → judged ≡ Err r → Updates judged R R' N m x y before (refusal r) R before
  updated : {after : List ℤ} → judged ≡ fine → Drawn box_row m (Updated N x y) before after
      → Updates judged R R' N m x y before (accepted []) R' after

-- ---- What the functions say, over the network of the open arcs

abbrev pub BuildBy : Asked → ℕ → ℕ → Rows → Signs → Reply → List ℤ → List ℕ → Type 0
BuildBy asked n m R G reply boxes masks = Builds (build_judged asked n m R G) (network m R) m asked G reply boxes masks

abbrev pub CheckBy : Asked → ℕ → ℕ → Rows → Signs → Reply → Type 0
CheckBy asked n m R G reply = Checks (check_judged asked n m R G) (network m R) asked G reply

-- of boxes alone, as in 01
abbrev pub BuildSays : ℕ → ℕ → Rows → List ℤ → List ℤ → List ℤ → Reply → List ℤ → Type 0
BuildSays n m R x y before reply after = BuildBy boxes_alone n m R (box_signs x y before) reply after []

abbrev pub CheckSays : ℕ → ℕ → Rows → List ℤ → List ℤ → List ℤ → Reply → Type 0
CheckSays n m R x y boxes reply = CheckBy boxes_alone n m R (box_signs x y boxes) reply

-- the rows with another weight and another closure for an arc
abbrev pub changed : Rows → ℕ → ℕ → ℕ → Rows
changed R arc weight closure = record {
  tails = R.tails;
  heads = R.heads;
  weights = set R.weights (arc - 1) weight;
  closures = set R.closures (arc - 1) closure;
}

-- both are written, or neither
abbrev pub UpdateSays : ℕ → ℕ → Rows → List ℤ → List ℤ → List ℤ → ℕ → ℕ → ℕ → Reply → Rows → List ℤ → Type 0
UpdateSays n m R x y before arc weight closure reply rows after =
    let R' = changed R arc weight closure in
    Updates (update_judged boxes_alone n m R (box_signs x y before) arc weight closure) R R' (network m R') m x y before reply rows after
