-- The starred lines of 01, the errors that learners bring, the closed tracks of request b, the reasons of request e, the mark of
-- request f, the lists of request g and the modules of request h: one table under one statement. The statement is made of the
-- functions' own relations, so that each line says what a function replies and writes. `table_right` in proofs/TableRight.antt proves it.
use Rattle.std.specs.Prelude.{ℕ, ◌↔◌, true, List, [], ◌∷◌, ℤ, pos, negsuc, replicate}
use Rattle.rules.specs.Limits.{most_weight}
use Rattle.rules.specs.Paper.{Reply, accepted, refusal}
use Rattle.rules.specs.declared.Asked.{Asked}
use Rattle.rules.specs.declared.Refusal.{Refusal}
use Rattle.rules.specs.declared.Refusal.TheVariants.{RowTooShort, CountsDisagree, BadModule, BadBox, NoWalk, Misses}
use Rattle.scan.specs.Ascii.{bytes}
use Rattle.walks.specs.Walk.{WalkBy}
use Rattle.walks.specs.Rows.{rows, network}
use Rattle.walks.specs.Through.{InS}
use Rattle.masks.specs.Says.{LampsSays}
use Rattle.passing.specs.Signs.{Signs, signs, nothing, boxes_alone, masks_alone}
use Rattle.search.specs.Says.{SearchBy}
use Rattle.reasons.specs.Using.{Among}
use Rattle.reasons.specs.declared.Reason.{Reason}
use Rattle.reasons.specs.declared.Reason.TheVariants.{Closed as closed, CutOff as cut_off, Longer as longer, Tied as tied, OnRoute as on_route}
use Rattle.reasons.specs.Paper as reasons
use Rattle.reasons.specs.Says.{WhySays}
use Rattle.boxwork.specs.Says.{BuildBy, CheckBy, UpdateSays}
use Rattle.daylist.specs.Replies.{no_route}
use Rattle.daylist.specs.Says.{DaySays}
use Rattle.worked.specs.Plans.{Plan, hall, far_hall, reweighted_hall, closed_hall, cut_hall, shut_hall, one_way, zeros, behind, west, triangle, detour, closed_triangle, bridge, lifted_bridge, hall_boxes, led_boxes, closed_boxes, raised_boxes, wide_boxes, flat_boxes, full_boxes, tree_boxes, triangle_boxes, mended_boxes, hall_masks, mixed_masks, dark_masks, blank, blank_masks, route, answers, panel}

-- a reply, with the route, weight, answer, mask or panel row, the row of closures and the box row afterwards, where the call may write them
pub record Told : Type 0 where
  pub reply : Reply
  pub numbers : List ℕ
  pub closures : List ℕ
  pub boxes : List ℤ

-- What a call goes by: what is asked, and the rows of boxes and masks that it is lent; beside them stand the plan's places and modules.
pub record By : Type 0 where
  pub asked : Asked
  pub boxes : List ℤ
  pub masks : List ℕ

abbrev plain : By
plain = record { asked = nothing; boxes = []; masks = [] }

abbrev by_boxes : List ℤ → By
by_boxes boxes = record { asked = boxes_alone; boxes = boxes; masks = [] }

abbrev by_masks : List ℕ → By
by_masks masks = record { asked = masks_alone; boxes = []; masks = masks }

abbrev by_both : List ℤ → List ℕ → By
by_both boxes masks = record { asked = record { boxes = true; masks = true }; boxes = boxes; masks = masks }

abbrev pub lent : Plan → By → Signs
lent p by = signs p.x p.y by.boxes p.modules by.masks

-- A call of one of the functions; searches are lent `route`, lists `answers`, and lamps `panel`
pub data Call : Type 0 where
  search : (plan : Plan) (by : By) (source target : ℕ) → Call
  build : (plan : Plan) (by : By) → Call
  check : (plan : Plan) (by : By) → Call
  update : (plan : Plan) (boxes : List ℤ) (arc weight closure : ℕ) → Call
  why : (plan : Plan) (source target arc : ℕ) → Call
  day : (plan : Plan) (boxes : List ℤ) (text : List ℕ) → Call
  lamps : (mask : ℕ) → Call

-- the call replies and writes this
abbrev pub Says : Call → Told → Type 0
Says (search p by s t) z = SearchBy by.asked p.nodes p.arcs p.rows (lent p by) s t route z.reply z.numbers
Says (build p by) z = BuildBy by.asked p.nodes p.arcs p.rows (lent p by) z.reply z.boxes z.numbers
Says (check p by) z = CheckBy by.asked p.nodes p.arcs p.rows (lent p by) z.reply
Says (update p boxes arc weight closure) z =
    UpdateSays p.nodes p.arcs p.rows p.x p.y boxes arc weight closure z.reply (rows p.rows.tails p.rows.heads z.numbers z.closures) z.boxes
Says (why p s t arc) z = WhySays p.nodes p.arcs p.rows s t arc z.reply
Says (day p boxes text) z = DaySays text p.nodes p.arcs p.rows p.x p.y boxes answers z.reply z.numbers
Says (lamps mask) z = LampsSays mask panel z.reply z.numbers

-- A line of the table
pub data Case : Type 0 where
  -- S(arc) has these nodes, and no other
  set : (plan : Plan) (arc : ℕ) (nodes : List ℕ) → Case
  -- these arcs are a walk of this length
  walk : (plan : Plan) (source target length : ℕ) (arcs : List ℕ) → Case
  -- the call replies and writes this
  call : (c : Call) (told : Told) → Case

-- THE STATEMENT of a line
abbrev pub Right : Case → Type 0
Right (set p e nodes) = (t : ℕ) → InS (network p.arcs p.rows) e t ↔ Among t nodes
Right (walk p s t l arcs) = WalkBy (network p.arcs p.rows) s t l arcs
Right (call c told) = Says c told

-- every line of a table
pub data Each (P : Case → Type 0) : List Case → Type 0 where
  no_line : Each P []
  line : {c : Case} {cs : List Case} → P c → Each P cs → Each P (c ∷ cs)

-- ---- What is told

abbrev found : ℕ → ℕ → ℕ → List ℕ → Told
found length arcs settled row = record { reply = accepted (length ∷ arcs ∷ settled ∷ []); numbers = row; closures = []; boxes = [] }

abbrev no_walk : ℕ → List ℕ → Told
no_walk settled row = record { reply = refusal (NoWalk settled); numbers = row; closures = []; boxes = [] }

abbrev yes : Told
yes = record { reply = accepted []; numbers = []; closures = []; boxes = [] }

abbrev bad_box : ℕ → Told
bad_box arc = record { reply = refusal (BadBox arc); numbers = []; closures = []; boxes = [] }

abbrev misses : ℕ → ℕ → Told
misses arc node = record { reply = refusal (Misses arc node); numbers = []; closures = []; boxes = [] }

abbrev bad_module : ℕ → List ℕ → Told
bad_module node masks = record { reply = refusal (BadModule node); numbers = masks; closures = []; boxes = [] }

abbrev draws : List ℤ → List ℕ → Told
draws boxes masks = record { reply = accepted []; numbers = masks; closures = []; boxes = boxes }

abbrev writes : List ℕ → List ℕ → List ℤ → Told
writes weights closures boxes = record { reply = accepted []; numbers = weights; closures = closures; boxes = boxes }

abbrev because : Reason → Told
because r = record { reply = reasons.told r; numbers = []; closures = []; boxes = [] }

abbrev ran : ℕ → ℕ → ℕ → List ℕ → Told
ran found none sum row = record { reply = accepted (found ∷ none ∷ sum ∷ []); numbers = row; closures = []; boxes = [] }

abbrev lit : ℕ → List ℕ → Told
lit count row = record { reply = accepted (count ∷ []); numbers = row; closures = []; boxes = [] }

abbrev refused : Refusal → Told
refused r = record { reply = refusal r; numbers = answers; closures = []; boxes = [] }

-- ---- The table

unfoldable pub table : List Case
table =
    -- S(1) is {2,3,4}. S(5) is empty, so its box is the mark.
    set hall 1 (2 ∷ 3 ∷ 4 ∷ [])
    ∷ set hall 5 []
    ∷ call (build hall (by_boxes blank)) (draws hall_boxes [])
    -- 1 to 4: length 6, arcs 3 and 4; the walk by arcs 1, 2 and 4 ties in length with more arcs. Settled 4 with the tight boxes.
    ∷ call (search hall (by_boxes hall_boxes) 1 4) (found 6 2 4 (3 ∷ 4 ∷ 0 ∷ 0 ∷ []))
    ∷ call (search hall plain 1 4) (found 6 2 4 (3 ∷ 4 ∷ 0 ∷ 0 ∷ []))
    ∷ walk hall 1 4 6 (1 ∷ 2 ∷ 4 ∷ [])
    -- 1 to 2: length 3, arc 1, settled 2. 4 to 2: length 7, arcs 6 and 1.
    ∷ call (search hall plain 1 2) (found 3 1 2 (1 ∷ 0 ∷ 0 ∷ 0 ∷ []))
    ∷ call (search hall (by_boxes hall_boxes) 1 2) (found 3 1 2 (1 ∷ 0 ∷ 0 ∷ 0 ∷ []))
    ∷ call (search hall plain 4 2) (found 7 2 3 (6 ∷ 1 ∷ 0 ∷ 0 ∷ []))
    ∷ call (search hall (by_boxes hall_boxes) 4 2) (found 7 2 3 (6 ∷ 1 ∷ 0 ∷ 0 ∷ []))
    -- 1 to 1: length 0, no arcs, settled 1.
    ∷ call (search hall plain 1 1) (found 0 0 1 route)
    ∷ call (search hall (by_boxes hall_boxes) 1 1) (found 0 0 1 route)
    -- With arc 3's low raised to 6, check gives 13, arc 3, node 3. With every box at the full limits it accepts.
    ∷ call (check hall (by_boxes raised_boxes)) (misses 3 3)
    ∷ call (check hall (by_boxes (full_boxes 6))) yes
    -- Arc 5 reweighted to 6: 1 to 4 goes by arc 5 alone. Its box, the mark, takes the place of 4.
    ∷ call (update hall hall_boxes 5 6 0) (writes (3 ∷ 2 ∷ 5 ∷ 1 ∷ 6 ∷ 4 ∷ []) (0 ∷ 0 ∷ 0 ∷ 0 ∷ 0 ∷ 0 ∷ []) led_boxes)
    ∷ call (search reweighted_hall plain 1 4) (found 6 1 4 (5 ∷ 0 ∷ 0 ∷ 0 ∷ []))
    -- Two nodes, only arc 2 to 1: from 1 to 2 is 12, settled 1.
    ∷ call (search one_way plain 1 2) (no_walk 1 route)
    -- Arcs 1-2 and 2-1 of weight 0, 1-3 and 2-3 of weight 5: from 1 to 3 is length 5 by arc 3.
    ∷ call (search zeros plain 1 3) (found 5 1 3 (3 ∷ 0 ∷ 0 ∷ 0 ∷ []))
    -- An update mends the boxes of other arcs: where arc 3 grows heavier, arc 1 comes to lead to node 3.
    ∷ call (build triangle (by_boxes (replicate 12 (pos 7)))) (draws triangle_boxes [])
    ∷ call (check detour (by_boxes triangle_boxes)) (misses 1 3)
    ∷ call (update triangle triangle_boxes 3 5 0) (writes (1 ∷ 1 ∷ 5 ∷ []) (0 ∷ 0 ∷ 0 ∷ []) mended_boxes)
    ∷ call (check detour (by_boxes mended_boxes)) yes
    -- Learners' error 1, one tree per node: those boxes lose both ways to 4, and check names arc 3 and node 4.
    ∷ call (search behind plain 1 4) (found 6 2 4 (3 ∷ 5 ∷ 0 ∷ 0 ∷ []))
    ∷ call (search behind (by_boxes tree_boxes) 1 4) (no_walk 2 route)
    ∷ call (check behind (by_boxes tree_boxes)) (misses 3 4)
    -- Error 2, a box started at 0, 0: of a plan west of the origin, the box does not reach there.
    ∷ call (build west (by_boxes (pos 0 ∷ pos 0 ∷ pos 0 ∷ pos 0 ∷ []))) (draws (negsuc 19 ∷ negsuc 19 ∷ negsuc 4 ∷ negsuc 4 ∷ []) [])
    -- Error 3: arc 5 is a walk to its head, which is not in S(5), as said above.
    ∷ walk hall 1 4 9 (5 ∷ [])
    -- Error 4, ties by order of discovery: the route is the same by other boxes that check accepts.
    ∷ call (search hall (by_boxes (full_boxes 6)) 1 4) (found 6 2 4 (3 ∷ 4 ∷ 0 ∷ 0 ∷ []))
    -- Request b. With arc 3 closed S(3) is empty, so its box is the mark; 1 to 4 goes by arcs 1, 2 and 4.
    ∷ set closed_hall 3 []
    ∷ call (build closed_hall (by_boxes blank)) (draws closed_boxes [])
    ∷ call (search closed_hall plain 1 4) (found 6 3 4 (1 ∷ 2 ∷ 4 ∷ 0 ∷ []))
    ∷ call (search closed_hall (by_boxes closed_boxes) 1 4) (found 6 3 4 (1 ∷ 2 ∷ 4 ∷ 0 ∷ []))
    -- With arcs 1, 3 and 5 closed 1 to 4 is 12, settled 1.
    ∷ call (search shut_hall plain 1 4) (no_walk 1 route)
    -- An update closes arc 3 and keeps its weight. It enlarges no box: the walk by arcs 1, 2 and 4 tied before.
    ∷ call (update hall hall_boxes 3 5 1) (writes (3 ∷ 2 ∷ 5 ∷ 1 ∷ 9 ∷ 4 ∷ []) (0 ∷ 0 ∷ 1 ∷ 0 ∷ 0 ∷ 0 ∷ []) hall_boxes)
    ∷ call (check closed_hall (by_boxes hall_boxes)) yes
    -- Boxes that were right before a track was closed: with the triangle's arc 3 closed arc 1 comes to lead to node 3, and check gives
    -- 13, arc 1, node 3. An update mends them.
    ∷ call (check triangle (by_boxes triangle_boxes)) yes
    ∷ call (check closed_triangle (by_boxes triangle_boxes)) (misses 1 3)
    ∷ call (update triangle triangle_boxes 3 1 1) (writes (1 ∷ 1 ∷ 1 ∷ []) (0 ∷ 0 ∷ 1 ∷ []) mended_boxes)
    ∷ call (check closed_triangle (by_boxes mended_boxes)) yes
    -- Weight 1,000,000 is an ordinary time, and a closed track not a slow one: over the lifted bridge 1 to 2 is 12, settled 1.
    ∷ call (search bridge plain 1 2) (found most_weight 1 2 (1 ∷ 0 ∷ 0 ∷ 0 ∷ []))
    ∷ call (search lifted_bridge plain 1 2) (no_walk 1 route)
    -- Request e. From 1 to 4 by arcs 3 and 4: the walk by arcs 1, 2 and 4 ties, arc 5 takes 3 longer, and over arc 6 once round 10.
    ∷ call (why hall 1 4 1) (because tied)
    ∷ call (why hall 1 4 2) (because tied)
    ∷ call (why hall 1 4 3) (because on_route)
    ∷ call (why hall 1 4 4) (because on_route)
    ∷ call (why hall 1 4 5) (because (longer 3))
    ∷ call (why hall 1 4 6) (because (longer 10))
    -- With arc 3 closed the tie is on the route.
    ∷ call (why closed_hall 1 4 3) (because closed)
    ∷ call (why closed_hall 1 4 1) (because on_route)
    -- With arcs 1, 3 and 5 closed 12 comes before the closure of arc 3. From 4 to 1 the start of arc 2 cannot be reached.
    ∷ call (why shut_hall 1 4 3) (no_walk 1 [])
    ∷ call (why shut_hall 4 1 2) (because cut_off)
    -- Only arc 2 to 1, and from 2 to 2 by no arc: 2 cannot be reached from the arc's end.
    ∷ call (why one_way 2 2 1) (because cut_off)
    -- With the triangle's arc 3 closed: from 2 its start cannot be reached either, but closed comes first.
    ∷ call (why closed_triangle 2 3 3) (because closed)
    -- Request f. Check accepts the mark. With its left at 2, or with its low and high not reversed, arc 5 is 10.
    ∷ call (check hall (by_boxes hall_boxes)) yes
    ∷ call (check hall (by_boxes wide_boxes)) (bad_box 5)
    ∷ call (check hall (by_boxes flat_boxes)) (bad_box 5)
    -- Back at its old time arc 5 leads nowhere, and an update leaves its box as it was.
    ∷ call (update reweighted_hall led_boxes 5 9 0) (writes (3 ∷ 2 ∷ 5 ∷ 1 ∷ 9 ∷ 4 ∷ []) (0 ∷ 0 ∷ 0 ∷ 0 ∷ 0 ∷ 0 ∷ []) led_boxes)
    -- With arc 4 closed arc 5 leads to node 4, which the mark does not hold: check gives 13, arc 5, node 4. An update mends it.
    ∷ call (check cut_hall (by_boxes hall_boxes)) (misses 5 4)
    ∷ call (update hall hall_boxes 4 1 1) (writes (3 ∷ 2 ∷ 5 ∷ 1 ∷ 9 ∷ 4 ∷ []) (0 ∷ 0 ∷ 0 ∷ 1 ∷ 0 ∷ 0 ∷ []) led_boxes)
    -- The test of request d, run on the mark: the arc may not be used, so 2 to 1 is 12; and check misses node 1.
    ∷ call (search one_way (by_boxes (pos 1 ∷ pos 0 ∷ pos 1 ∷ pos 0 ∷ [])) 2 1) (no_walk 1 route)
    ∷ call (check one_way (by_boxes (pos 1 ∷ pos 0 ∷ pos 1 ∷ pos 0 ∷ []))) (misses 1 1)
    -- Request g. Three queries, each with a route; the row's other places are kept.
    ∷ call (day hall hall_boxes (bytes "p aux sp p2p 3\nq 1 4\nq 4 2\nq 1 1\n")) (ran 3 0 13 (6 ∷ 7 ∷ 0 ∷ replicate 253 7))
    -- With arcs 1, 3 and 5 closed there is none from 1 to 4: the mark, which is no part of the sum.
    ∷ call (day shut_hall hall_boxes (bytes "p aux sp p2p 2\nq 1 4\nq 4 1\n")) (ran 1 1 4 (no_route ∷ 4 ∷ replicate 254 7))
    -- No query at all. A query beyond K, and a box row that is too short: nothing is written.
    ∷ call (day hall hall_boxes (bytes "p aux sp p2p 0\n")) (ran 0 0 0 answers)
    ∷ call (day hall hall_boxes (bytes "p aux sp p2p 1\nq 1 4\nq 1 2\n")) (refused (CountsDisagree 3))
    ∷ call (day hall triangle_boxes (bytes "p aux sp p2p 1\nq 1 4\n")) (refused RowTooShort)
    -- Request h. The hall's nodes 1 to 4 lie in the modules 1, 2, 3 and 32. Arc 1's mask has 2, 3 and 32; arc 5's has none, since S(5) is empty.
    ∷ call (build hall (by_masks blank_masks)) (draws [] hall_masks)
    ∷ call (build hall (by_both blank blank_masks)) (draws hall_boxes hall_masks)
    ∷ call (check hall (by_masks hall_masks)) yes
    ∷ call (check hall (by_both hall_boxes hall_masks)) yes
    -- With masks alone, and with both, the replies are those of a search with none.
    ∷ call (search hall (by_masks hall_masks) 1 4) (found 6 2 4 (3 ∷ 4 ∷ 0 ∷ 0 ∷ []))
    ∷ call (search hall (by_masks hall_masks) 4 2) (found 7 2 3 (6 ∷ 1 ∷ 0 ∷ 0 ∷ []))
    ∷ call (search hall (by_both hall_boxes hall_masks) 1 4) (found 6 2 4 (3 ∷ 4 ∷ 0 ∷ 0 ∷ []))
    ∷ call (search hall (by_both hall_boxes hall_masks) 1 2) (found 3 1 2 (1 ∷ 0 ∷ 0 ∷ 0 ∷ []))
    -- Without any module 13, arc 1, node 2. Where both kinds miss a node, that of the boxes is told, though its arc stands later.
    ∷ call (check hall (by_masks dark_masks)) (misses 1 2)
    ∷ call (check hall (by_both hall_boxes dark_masks)) (misses 1 2)
    ∷ call (check hall (by_both raised_boxes dark_masks)) (misses 3 3)
    -- Node 3 in module 33 is 18, before a box that is 10; the row of masks is kept.
    ∷ call (build far_hall (by_masks blank_masks)) (bad_module 3 blank_masks)
    ∷ call (check far_hall (by_both wide_boxes hall_masks)) (bad_module 3 [])
    -- Nothing is promised of both tests when only one has its yes. With the masks of arcs 4 and 5 mixed up: by the tight boxes, which
    -- have their yes, 1 to 4 is 12; by boxes at the full limits, which have theirs, it goes by arc 5 and is 3 longer.
    ∷ call (check hall (by_masks mixed_masks)) (misses 4 1)
    ∷ call (search hall (by_both hall_boxes mixed_masks) 1 4) (no_walk 3 route)
    ∷ call (search hall (by_both (full_boxes 6) mixed_masks) 1 4) (found 9 1 4 (5 ∷ 0 ∷ 0 ∷ 0 ∷ []))
    -- With masks that have their yes, and arc 3's low raised to 6: 1 to 3 is as long, but another route.
    ∷ call (search hall plain 1 3) (found 5 1 3 (3 ∷ 0 ∷ 0 ∷ 0 ∷ []))
    ∷ call (search hall (by_both raised_boxes hall_masks) 1 3) (found 5 2 3 (1 ∷ 2 ∷ 0 ∷ 0 ∷ []))
    -- The panel shows where arc 1 leads: three lamps, and their numbers. For arc 5 it stays dark.
    ∷ call (lamps 2147483654) (lit 3 (2 ∷ 3 ∷ 32 ∷ replicate 30 7))
    ∷ call (lamps 0) (lit 0 panel)
    ∷ []

-- THE STATEMENT of the table: every line is right
abbrev pub TableRight : Type 0
TableRight = Each Right table
