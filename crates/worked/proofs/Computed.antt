-- What search, build, check, update, a day's list and the panel tell, computed: by the definitions that the code's steps meet.
use Prim.Native.Nat.{ℕ, zero, suc, ◌+◌}
use mathlib.Core.Bool.{Bool, cond}
use mathlib.Core.List.{List, [], ◌∷◌, ◌++◌, map}
use lib.IntN.{ℤ}
use lib.ListN.{length, drop, replicate}
use lib.Dec.{eqb}
use Rattle.std.specs.Prelude.{Option, Some, None, Ok, Err}
use Rattle.rules.specs.Paper.{Reply, accepted, refusal}
use Rattle.rules.specs.declared.Asked.{Asked}
use Rattle.rules.specs.Judging.{Judged}
use Rattle.rules.specs.declared.Refusal.TheVariants.{NoWalk, Misses}
use Rattle.scan.specs.declared.holding.Numbers.{Numbers}
use Rattle.dimacs.specs.Texts as text
use Rattle.walks.specs.Rows.{Rows}
use Rattle.geometry.specs.Box.{mark}
use Rattle.geometry.specs.Row.{with_box}
use Rattle.masks.specs.Panel.{modules_of}
use Rattle.passing.specs.Signs.{Signs, boxes_alone, box_signs}
use Rattle.passing.specs.Asking.{tests_toward, keeps}
use Rattle.settling.specs.declared.Outcome.{Outcome}
use Rattle.settling.specs.Labels.{length_of, arcs_of}
use Rattle.settling.specs.Run.{search_of}
use Rattle.settling.specs.Trace.{trace_of}
use Rattle.judging.specs.Order.{search_judged, build_judged, check_judged, update_judged, day_judged}
use Rattle.drawing.specs.declared.compare.Miss.{Miss}
use Rattle.drawing.specs.Drawn.{Kind, Row, box_row, mask_row}
use Rattle.drawing.specs.Leads.{leads_to}
use Rattle.drawing.specs.Gathered.{add_place, add_module, gathered}
use Rattle.drawing.specs.Missed.{misses_node}
use Rattle.drawing.proofs.DrawnLaws.{with_single}
use Rattle.boxwork.specs.Says.{boxes_of, masks_of, changed}
use Rattle.daylist.specs.Replies.{entry, with_route, with_none, total}
use Rattle.worked.specs.Table.{Told}

-- a refusal leaves the rows as they were, else `told` is told
unfoldable pub or_told : Judged → List ℕ → List ℕ → List ℤ → Told → Told
or_told (Err r) numbers closures boxes told = record { reply = refusal r; numbers = numbers; closures = closures; boxes = boxes }
or_told (Ok _) numbers closures boxes told = told

-- ---- Searches

module _ (R : Rows) (keep : ℕ → Bool) (m t : ℕ) (row : List ℕ) where
  unfoldable pub answer_of : Outcome → Told
  answer_of o =
      cond o.found
      (record { reply = accepted (length_of o.labels t ∷ arcs_of o.labels t ∷ o.count ∷ []); numbers = trace_of R keep m o.labels (arcs_of o.labels t) t row; closures = []; boxes = [] })
      (record { reply = refusal (NoWalk o.count); numbers = row; closures = []; boxes = [] })

-- by the open arcs that pass the tests asked, toward t
module _ (asked : Asked) (n m : ℕ) (R : Rows) (G : Signs) where
  abbrev pub kept_toward : ℕ → ℕ → Bool
  kept_toward t = keeps (tests_toward asked G.x G.y G.modules t) R.closures G.boxes G.masks

  unfoldable pub search_told : ℕ → ℕ → List ℕ → Told
  search_told s t row =
      let keep = kept_toward t in
      or_told (search_judged asked n m R G s t (length row)) row [] [] (answer_of R keep m t row (search_of R keep n m t s))

-- ---- A day's list

module _ (n m : ℕ) (R : Rows) (x y boxes : List ℤ) where
  -- the replies of separate searches
  unfoldable pub replies_told : List Numbers → List Reply
  replies_told [] = []
  replies_told (q ∷ queries) = (search_told boxes_alone n m R (box_signs x y boxes) q.first q.second (replicate n 0)).reply ∷ replies_told queries

  -- where its text was read so
  unfoldable pub day_told : List ℕ → text.Outcome → Told
  day_told before (text.refused r) = record { reply = refusal r; numbers = before; closures = []; boxes = [] }
  day_told before (text.read problem queries) =
      let replies = replies_told queries in
      or_told (day_judged boxes_alone n m R (box_signs x y boxes)) before [] []
      (record { reply = accepted (with_route replies ∷ with_none replies ∷ total replies ∷ []); numbers = map entry replies ++ drop (length replies) before; closures = []; boxes = [] })

-- ---- Build and update

module _ (K : Kind) (put : Row K → ℕ → K.Entry → Row K) (draw : ℕ → K.Entry → K.Entry) where
  -- the entries of the arcs 1..m drawn anew
  unfoldable pub drawn_to : ℕ → Row K → Row K
  drawn_to zero row = row
  drawn_to (suc k) row = put (drawn_to k row) (k + 1) (draw (k + 1) (K.entry row (k + 1)))

  -- where that is asked
  unfoldable pub drawn_if : Bool → ℕ → Row K → Row K
  drawn_if asked m row = cond asked (drawn_to m row) row

module _ (n m : ℕ) (R : Rows) where
  -- an arc's entry with the nodes of its S(e) added
  abbrev pub all_added : {A : Type 0} → (ℕ → A → A) → ℕ → A → A
  all_added add e b = gathered (λ t. leads_to R n m t e) add n b

  -- the entries emptied, and then the nodes added, where that is asked
  abbrev pub built_if : (asked : Bool) (K : Kind) (put : Row K → ℕ → K.Entry → Row K) (empty : K.Entry) (add : ℕ → K.Entry → K.Entry) → Row K → Row K
  built_if asked K put empty add row = drawn_if K put (all_added add) asked m (drawn_if K put (λ e b. empty) asked m row)

  module _ (asked : Asked) (G : Signs) where
    abbrev pub boxes_built : List ℤ
    boxes_built = built_if asked.boxes box_row with_box mark (add_place G.x G.y) G.boxes

    abbrev pub masks_built : List ℕ
    masks_built = built_if asked.masks mask_row (with_single 0) 0 (add_module G.modules) G.masks

    unfoldable pub build_told : Told
    build_told =
        or_told (build_judged asked n m R G) G.masks [] G.boxes (record { reply = accepted []; numbers = masks_built; closures = []; boxes = boxes_built })

unfoldable pub update_told : ℕ → ℕ → Rows → List ℤ → List ℤ → List ℤ → ℕ → ℕ → ℕ → Told
update_told n m R x y boxes arc weight closure =
    let S = changed R arc weight closure in
    or_told (update_judged boxes_alone n m R (box_signs x y boxes) arc weight closure) R.weights R.closures boxes
    (record { reply = accepted []; numbers = S.weights; closures = S.closures; boxes = drawn_to box_row with_box (all_added n m S (add_place x y)) m boxes })

-- ---- Check

module _ (test : ℕ → ℕ → Bool) (n : ℕ) where
  -- the lowest of the nodes 1..k that passes with the arc e; 0 for none
  unfoldable pub lowest_node : ℕ → ℕ → ℕ
  lowest_node e zero = 0
  lowest_node e (suc k) = cond (eqb (lowest_node e k) 0) (cond (test (suc k) e) (suc k) 0) (lowest_node e k)

  unfoldable pub or_arc : Option Miss → ℕ → ℕ → Option Miss
  or_arc (Some miss) k node = Some miss
  or_arc None k node = cond (eqb node 0) None (Some (record { arc = k; node = node }))

  -- of the arcs 1..k
  unfoldable pub lowest_arc : ℕ → Option Miss
  lowest_arc zero = None
  lowest_arc (suc k) = or_arc (lowest_arc k) (suc k) (lowest_node (suc k) n)

abbrev pub miss_reply : Option Miss → Reply
miss_reply None = accepted []
miss_reply (Some miss) = refusal (Misses miss.arc miss.node)

-- the first miss, and where there is none another
abbrev pub or_miss : Option Miss → Option Miss → Option Miss
or_miss (Some miss) other = Some miss
or_miss None other = other

-- by the boxes first, and then by the masks
unfoldable pub check_told : Asked → ℕ → ℕ → Rows → Signs → Told
check_told asked n m R G =
    let miss = or_miss (lowest_arc (misses_node R n m (boxes_of asked) G) n m) (lowest_arc (misses_node R n m (masks_of asked) G) n m) in
    or_told (check_judged asked n m R G) [] [] [] (record { reply = miss_reply miss; numbers = []; closures = []; boxes = [] })

-- ---- The panel, where its row has 32 places

abbrev pub lamps_told : ℕ → List ℕ → Told
lamps_told mask row =
    let modules = modules_of mask in
    record { reply = accepted (length modules ∷ []); numbers = modules ++ drop (length modules) row; closures = []; boxes = [] }

-- ---- S(e)

-- of the nodes from t on, `fuel` many, those to which an arc leads
module _ (leads : ℕ → Bool) where
  unfoldable pub members_from : ℕ → ℕ → List ℕ
  members_from zero t = []
  members_from (suc fuel) t = cond (leads t) (t ∷ members_from fuel (t + 1)) (members_from fuel (t + 1))

abbrev pub members_of : ℕ → ℕ → Rows → ℕ → List ℕ
members_of n m R e = members_from (λ t. leads_to R n m t e) n 1
