-- The plans of 01, every track open: the hall, and its other small networks; for request b some with tracks closed; and the hall's modules for request h.
use Rattle.std.specs.Prelude.{ℕ, zero, suc, List, [], ◌∷◌, ℤ, pos, negsuc, set, replicate}
use Rattle.rules.specs.Limits.{most_weight, least_coordinate, most_coordinate}
use Rattle.walks.specs.Rows.{Rows, rows}
use Rattle.geometry.specs.Box.{mark}
use Rattle.geometry.specs.Row.{with_box}
use Rattle.boxwork.specs.Says.{changed}

pub record Plan : Type 0 where
  pub nodes : ℕ
  pub arcs : ℕ
  pub rows : Rows
  pub x : List ℤ
  pub y : List ℤ
  pub modules : List ℕ

-- the plan with other arc rows, and with other modules
abbrev with : Plan → Rows → Plan
with p r = record { nodes = p.nodes; arcs = p.arcs; rows = r; x = p.x; y = p.y; modules = p.modules }

abbrev numbered : Plan → List ℕ → Plan
numbered p modules = record { nodes = p.nodes; arcs = p.arcs; rows = p.rows; x = p.x; y = p.y; modules = modules }

-- net.gr and net.co
unfoldable pub hall : Plan
hall = record {
  nodes = 4;
  arcs = 6;
  rows = record { tails = 1 ∷ 2 ∷ 1 ∷ 3 ∷ 1 ∷ 4 ∷ []; heads = 2 ∷ 3 ∷ 3 ∷ 4 ∷ 4 ∷ 1 ∷ []; weights = 3 ∷ 2 ∷ 5 ∷ 1 ∷ 9 ∷ 4 ∷ []; closures = replicate 6 0 };
  x = pos 0 ∷ pos 10 ∷ pos 10 ∷ negsuc 4 ∷ [];
  y = pos 0 ∷ pos 0 ∷ pos 5 ∷ pos 20 ∷ [];
  modules = 1 ∷ 2 ∷ 3 ∷ 32 ∷ [];
}

-- the hall with node 3 in a module that no panel has
unfoldable pub far_hall : Plan
far_hall = numbered hall (1 ∷ 2 ∷ 33 ∷ 32 ∷ [])

-- the hall with arc 5 reweighted to 6
unfoldable pub reweighted_hall : Plan
reweighted_hall = with hall (changed hall.rows 5 6 0)

-- the hall with arc 3 closed
unfoldable pub closed_hall : Plan
closed_hall = with hall (changed hall.rows 3 5 1)

-- the hall with arc 4 closed: to node 4 only arc 5 is left
unfoldable pub cut_hall : Plan
cut_hall = with hall (changed hall.rows 4 1 1)

-- the hall with arcs 1, 3 and 5 closed: every track out of node 1
unfoldable pub shut_hall : Plan
shut_hall = with hall (rows hall.rows.tails hall.rows.heads hall.rows.weights (1 ∷ 0 ∷ 1 ∷ 0 ∷ 1 ∷ 0 ∷ []))

-- two nodes, only arc 2 to 1
unfoldable pub one_way : Plan
one_way = record { nodes = 2; arcs = 1; rows = record { tails = 2 ∷ []; heads = 1 ∷ []; weights = 7 ∷ []; closures = 0 ∷ [] }; x = pos 0 ∷ pos 1 ∷ []; y = pos 0 ∷ pos 1 ∷ []; modules = [] }

-- arcs 1-2 and 2-1 of weight 0, 1-3 and 2-3 of weight 5
unfoldable pub zeros : Plan
zeros = record {
  nodes = 3;
  arcs = 4;
  rows = record { tails = 1 ∷ 2 ∷ 1 ∷ 2 ∷ []; heads = 2 ∷ 1 ∷ 3 ∷ 3 ∷ []; weights = 0 ∷ 0 ∷ 5 ∷ 5 ∷ []; closures = replicate 4 0 };
  x = pos 0 ∷ pos 10 ∷ pos 20 ∷ [];
  y = pos 0 ∷ pos 0 ∷ pos 0 ∷ [];
  modules = [];
}

-- the same with an arc 3-4 behind it; node 4 lies apart, and the places of 1 and 2 between those of 3 and 4
unfoldable pub behind : Plan
behind = record {
  nodes = 4;
  arcs = 5;
  rows = record { tails = 1 ∷ 2 ∷ 1 ∷ 2 ∷ 3 ∷ []; heads = 2 ∷ 1 ∷ 3 ∷ 3 ∷ 4 ∷ []; weights = 0 ∷ 0 ∷ 5 ∷ 5 ∷ 1 ∷ []; closures = replicate 5 0 };
  x = pos 10 ∷ pos 12 ∷ pos 0 ∷ pos 30 ∷ [];
  y = pos 0 ∷ pos 1 ∷ pos 0 ∷ pos 5 ∷ [];
  modules = [];
}

-- two nodes west of the origin, and an arc between them
unfoldable pub west : Plan
west = record {
  nodes = 2;
  arcs = 1;
  rows = record { tails = 1 ∷ []; heads = 2 ∷ []; weights = 1 ∷ []; closures = 0 ∷ [] };
  x = negsuc 9 ∷ negsuc 19 ∷ [];
  y = negsuc 9 ∷ negsuc 4 ∷ [];
  modules = [];
}

-- arcs 1-2, 2-3 and 1-3, each of weight 1
unfoldable pub triangle : Plan
triangle = record {
  nodes = 3;
  arcs = 3;
  rows = record { tails = 1 ∷ 2 ∷ 1 ∷ []; heads = 2 ∷ 3 ∷ 3 ∷ []; weights = 1 ∷ 1 ∷ 1 ∷ []; closures = replicate 3 0 };
  x = pos 0 ∷ pos 10 ∷ pos 10 ∷ [];
  y = pos 0 ∷ pos 0 ∷ pos 10 ∷ [];
  modules = [];
}

-- its arc 3 reweighted to 5: now 1 to 3 goes through 2
unfoldable pub detour : Plan
detour = with triangle (changed triangle.rows 3 5 0)

-- its arc 3 closed: again 1 to 3 goes through 2
unfoldable pub closed_triangle : Plan
closed_triangle = with triangle (changed triangle.rows 3 1 1)

-- two nodes and a bridge from 1 to 2, of the most weight; and that bridge lifted
unfoldable pub bridge : Plan
bridge = record {
  nodes = 2;
  arcs = 1;
  rows = record { tails = 1 ∷ []; heads = 2 ∷ []; weights = most_weight ∷ []; closures = 0 ∷ [] };
  x = pos 0 ∷ pos 1 ∷ [];
  y = pos 0 ∷ pos 1 ∷ [];
  modules = [];
}

unfoldable pub lifted_bridge : Plan
lifted_bridge = with bridge (changed bridge.rows 1 most_weight 1)

-- ---- Rows of boxes

-- a box, and the rest of the row
abbrev box : ℤ → ℤ → ℤ → ℤ → List ℤ → List ℤ
box left right low high more = left ∷ right ∷ low ∷ high ∷ more

-- the hall's tight boxes, as 01 prints them; arc 5 has the mark
unfoldable pub hall_boxes : List ℤ
hall_boxes =
    box (negsuc 4) (pos 10) (pos 0) (pos 20)
    (box (negsuc 4) (pos 10) (pos 0) (pos 20)
    (box (negsuc 4) (pos 10) (pos 5) (pos 20)
    (box (negsuc 4) (pos 10) (pos 0) (pos 20)
    (box (pos 1) (pos 0) (pos 1) (pos 0)
    (box (pos 0) (pos 10) (pos 0) (pos 5) [])))))

-- arc 5's box at node 4, where it leads there
unfoldable pub led_boxes : List ℤ
led_boxes = with_box hall_boxes 5 (record { left = negsuc 4; right = negsuc 4; low = pos 20; high = pos 20 })

-- arc 5's left at 2 and not at 1, and its low and high no longer reversed: boxes with reversed sides that are not the mark
unfoldable pub wide_boxes : List ℤ
wide_boxes = set hall_boxes 16 (pos 2)

unfoldable pub flat_boxes : List ℤ
flat_boxes = set hall_boxes 19 (pos 1)

-- arc 3's low raised to 6
unfoldable pub raised_boxes : List ℤ
raised_boxes = set hall_boxes 10 (pos 6)

-- arc 3 with the mark too
unfoldable pub closed_boxes : List ℤ
closed_boxes = with_box hall_boxes 3 mark

-- so many boxes at the full limits
unfoldable pub full_boxes : ℕ → List ℤ
full_boxes zero = []
full_boxes (suc k) = box least_coordinate most_coordinate least_coordinate most_coordinate (full_boxes k)

-- boxes from one tree per node, for `behind`: the tree from 1 goes to 3 and 4 through 2, and the tree from 2 through 1. Each holds its head.
unfoldable pub tree_boxes : List ℤ
tree_boxes =
    box (pos 0) (pos 30) (pos 0) (pos 5)
    (box (pos 0) (pos 30) (pos 0) (pos 5)
    (box (pos 0) (pos 0) (pos 0) (pos 0)
    (box (pos 0) (pos 0) (pos 0) (pos 0)
    (box (pos 30) (pos 30) (pos 5) (pos 5) []))))

-- the triangle's tight boxes, and those that an update leaves which makes arc 3 heavier or closes it
unfoldable pub triangle_boxes : List ℤ
triangle_boxes = box (pos 10) (pos 10) (pos 0) (pos 0) (box (pos 10) (pos 10) (pos 10) (pos 10) (box (pos 10) (pos 10) (pos 10) (pos 10) []))

unfoldable pub mended_boxes : List ℤ
mended_boxes = box (pos 10) (pos 10) (pos 0) (pos 10) (box (pos 10) (pos 10) (pos 10) (pos 10) (box (pos 10) (pos 10) (pos 10) (pos 10) []))

-- ---- Rows of masks

-- the hall's: the modules 2, 3 and 32; 1, 3 and 32; 3 and 32; 1, 2 and 32; none; 1, 2 and 3
unfoldable pub hall_masks : List ℕ
hall_masks = 2_147_483_654 ∷ 2_147_483_653 ∷ 2_147_483_652 ∷ 2_147_483_651 ∷ 0 ∷ 7 ∷ []

-- those of arcs 4 and 5 mixed up
unfoldable pub mixed_masks : List ℕ
mixed_masks = 2_147_483_654 ∷ 2_147_483_653 ∷ 2_147_483_652 ∷ 0 ∷ 2_147_483_651 ∷ 7 ∷ []

-- no module anywhere
abbrev pub dark_masks : List ℕ
dark_masks = replicate 6 0

-- ---- Rows as they are lent: for six boxes, for six masks, for a route of four nodes, for the answers of a list, and for the panel

abbrev pub blank : List ℤ
blank = replicate 24 (pos 7)

abbrev pub blank_masks : List ℕ
blank_masks = replicate 6 7

abbrev pub route : List ℕ
route = 0 ∷ 0 ∷ 0 ∷ 0 ∷ []

unfoldable pub answers : List ℕ
answers = replicate 256 7

abbrev pub panel : List ℕ
panel = replicate 33 7
