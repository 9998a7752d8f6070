-- The one order of refusals, for every call on a network: 5 for n or m, 2, 8, 14, 9, 18, 10, 11, 5 for a new weight, 14 for a new
-- closure. First the stages in that order, then what calls have in common, then the calls. A call makes only the tests of what it
-- is lent or reads.
use Rattle.std.specs.Prelude.{ℕ, ◌*◌, Bool, true, false, ◌&&◌, List, [], ◌∷◌, ℤ, length, leb}
use Rattle.rules.specs.Limits.{most_nodes, most_arcs, most_weight, most_modules}
use Rattle.rules.specs.Judging.{Judged, fine, in_turn, passes, each}
use Rattle.rules.specs.declared.Asked.{Asked}
use Rattle.rules.specs.declared.Refusal.TheVariants.{RowTooShort, BeyondLimits, BadArc, BadClosure, BadCoordinate, BadModule, BadBox, NotInNetwork}
use Rattle.geometry.specs.Box.{within_b, well_shaped_b}
use Rattle.geometry.specs.Row.{coordinate, box_of}
use Rattle.walks.specs.Rows.{Rows, at}
use Rattle.passing.specs.Signs.{Signs}

-- ---- The stages

-- 5: n from 1 to 512, m from 0 to 2,048
abbrev pub sizes : ℕ → ℕ → Judged
sizes n m = passes (leb 1 n && leb n most_nodes && leb m most_arcs) (BeyondLimits 0)

-- 2: every row that is lent is long enough
abbrev pub lengths : Bool → Judged
lengths long = passes long RowTooShort

-- the arc rows have m places
abbrev pub arc_rows_long : ℕ → Rows → Bool
arc_rows_long m R = leb m (length R.tails) && leb m (length R.heads) && leb m (length R.weights)

-- the coordinate rows have n places, and the box row 4m
abbrev pub box_rows_long : ℕ → ℕ → List ℤ → List ℤ → List ℤ → Bool
box_rows_long n m x y boxes = leb n (length x) && leb n (length y) && leb (4 * m) (length boxes)

-- the module row has n places, and the mask row m
abbrev pub mask_rows_long : ℕ → ℕ → List ℕ → List ℕ → Bool
mask_rows_long n m modules masks = leb n (length modules) && leb m (length masks)

-- 8: an arc's ends are nodes, and its weight is within the limit
abbrev pub good_arc : ℕ → ℕ → ℕ → ℕ → Bool
good_arc n tail head weight = leb 1 tail && leb tail n && leb 1 head && leb head n && leb weight most_weight

abbrev pub arcs : ℕ → ℕ → Rows → Judged
arcs n m R = each (λ e. good_arc n (at R.tails e) (at R.heads e) (at R.weights e)) BadArc m

-- 14: an arc's closure is 0, open, or 1, closed
abbrev pub good_closure : ℕ → Bool
good_closure byte = leb byte 1

abbrev pub closures : ℕ → List ℕ → Judged
closures m row = each (λ e. good_closure (at row e)) BadClosure m

-- 9: both coordinates of a node are within limits
abbrev pub good_place : List ℤ → List ℤ → ℕ → Bool
good_place x y node = within_b (coordinate x node) && within_b (coordinate y node)

abbrev pub coordinates : ℕ → List ℤ → List ℤ → Judged
coordinates n x y = each (good_place x y) BadCoordinate n

-- 18: the module of a node is from 1 to 32
abbrev pub good_module : List ℕ → ℕ → Bool
good_module modules node = leb 1 (at modules node) && leb (at modules node) most_modules

abbrev pub module_numbers : ℕ → List ℕ → Judged
module_numbers n modules = each (good_module modules) BadModule n

-- 10: the box of an arc is well shaped
abbrev pub good_box : List ℤ → ℕ → Bool
good_box boxes arc = well_shaped_b (box_of boxes arc)

abbrev pub shapes : ℕ → List ℤ → Judged
shapes m boxes = each (good_box boxes) BadBox m

-- 11: source and target are nodes
abbrev pub ends : ℕ → ℕ → ℕ → Judged
ends n s t = passes (leb 1 s && leb s n && leb 1 t && leb t n) NotInNetwork

-- 11: there is such an arc
abbrev pub known_arc : ℕ → ℕ → Judged
known_arc m arc = passes (leb 1 arc && leb arc m) NotInNetwork

-- 11, 5: and its new weight is within the limit
abbrev pub reweighing : ℕ → ℕ → ℕ → Judged
reweighing m arc weight = in_turn (known_arc m arc ∷ passes (leb weight most_weight) (BeyondLimits 0) ∷ [])

-- 11, 5, 14: and its new closure is 0 or 1
abbrev pub change : ℕ → ℕ → ℕ → ℕ → Judged
change m arc weight closure = in_turn (reweighing m arc weight ∷ passes (good_closure closure) (BadClosure arc) ∷ [])

-- ---- What calls have in common. A judgement of the network is told whether the other rows that a call is lent are long enough.

-- arcs without closures: 5, 2, 8
unfoldable pub arcs_judged : ℕ → ℕ → Rows → Bool → Judged
arcs_judged n m R others = in_turn (sizes n m ∷ lengths (arc_rows_long m R && others) ∷ arcs n m R ∷ [])

-- a network: 5, 2, 8, 14
unfoldable pub network_judged : ℕ → ℕ → Rows → Bool → Judged
network_judged n m R others = in_turn (arcs_judged n m R (leb m (length R.closures) && others) ∷ closures m R.closures ∷ [])

-- a test, and a stage, of what is asked; what is not asked passes
abbrev pub if_asked : Bool → Bool → Bool
if_asked true test = test
if_asked false test = true

abbrev pub when_asked : Bool → Judged → Judged
when_asked true stage = stage
when_asked false stage = fine

-- the rows of what is asked are long enough, and so are the others
abbrev pub signs_long : ℕ → ℕ → Asked → Signs → Bool → Bool
signs_long n m asked G others =
    if_asked asked.boxes (box_rows_long n m G.x G.y G.boxes) && (if_asked asked.masks (mask_rows_long n m G.modules G.masks) && others)

-- `judged` is such a judgement of a network of n nodes and m arcs
module _ (judged : Bool → Judged) (n m : ℕ) (asked : Asked) (G : Signs) where
  -- with the nodes' places and modules, and rows for what is asked: then 9, 18
  unfoldable pub placed_by : Bool → Judged
  placed_by others =
      in_turn (
      judged (signs_long n m asked G others)
      ∷ when_asked asked.boxes (coordinates n G.x G.y)
      ∷ when_asked asked.masks (module_numbers n G.modules)
      ∷ [])

  -- with what is asked in those rows: then 9, 18, 10
  unfoldable pub shaped_by : Bool → Judged
  shaped_by others = in_turn (placed_by others ∷ when_asked asked.boxes (shapes m G.boxes) ∷ [])

  -- a search, which is also lent a route row, of `places` places, which needs n: then 11
  unfoldable pub searched_by : ℕ → ℕ → ℕ → Judged
  searched_by s t places = in_turn (shaped_by (leb n places) ∷ ends n s t ∷ [])

-- ---- The calls, on what is asked

module _ (asked : Asked) (n m : ℕ) (R : Rows) (G : Signs) where
  -- a search: 5, 2, 8, 14, 9, 18, 10, 11, and then 12
  unfoldable pub search_judged : ℕ → ℕ → ℕ → Judged
  search_judged s t places = searched_by (network_judged n m R) n m asked G s t places

  -- build: 5, 2, 8, 14, 9, 18
  unfoldable pub build_judged : Judged
  build_judged = placed_by (network_judged n m R) n m asked G true

  -- check: 5, 2, 8, 14, 9, 18, 10, and then 13
  unfoldable pub check_judged : Judged
  check_judged = shaped_by (network_judged n m R) n m asked G true

  -- update: 5, 2, 8, 14, 9, 18, 10, 11, 5, 14
  unfoldable pub update_judged : ℕ → ℕ → ℕ → Judged
  update_judged arc weight closure = in_turn (check_judged ∷ change m arc weight closure ∷ [])

  -- a day's list, once its text is read: 5, 2, 8, 14, 9, 18, 10. It is lent no route row, and its queries name nodes
  unfoldable pub day_judged : Judged
  day_judged = shaped_by (network_judged n m R) n m asked G true

-- why not by an arc, which is lent no route row: 5, 2, 8, 14, 11 for source, target or arc, and then 12
unfoldable pub why_judged : ℕ → ℕ → Rows → ℕ → ℕ → ℕ → Judged
why_judged n m R s t arc = in_turn (network_judged n m R true ∷ ends n s t ∷ known_arc m arc ∷ [])
