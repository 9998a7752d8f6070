-- A search by boxes or by all open arcs is the search that was asked for.
use Rattle.std.proofs.Common.{◌≡◌, ap, ◌∙◌, ℕ, ℤ, List, [], Bool, true, false, Result}
use Rattle.rules.specs.declared.Refusal.{Refusal}
use Rattle.rules.specs.declared.Sizes.{Sizes}
use Rattle.walks.specs.Rows.{Rows}
use Rattle.passing.specs.Signs.{box_signs}
use Rattle.passing.specs.Lent.{signs_of}
use Rattle.passing.specs.declared.Signs.{Signs}
use Rattle.search.specs.Says.{SearchBy}
use Rattle.search.specs.Paper.{paper}
use Rattle.search.specs.declared.Found.{Found}
use Rattle.search.proofs.Alone.{plain_says, boxed_says}
use Rattle.replies.specs.Replies.{answer_line}
use Rattle.calls.specs.Calls.{given, with_route, search_call, Makes}

-- coordinates and boxes, lent alone
pub lent_alone : (G : Signs) {x y boxes : List ℤ} → (G.nodes.x.now ≡ x) × (G.nodes.y.now ≡ y) → G.boxes.now ≡ boxes → (G.nodes.modules.now ≡ []) × (G.masks.now ≡ [])
    → signs_of G ≡ box_signs x y boxes
lent_alone G p q r = rw (p.0, p.1, q, r.0, r.1)

pub search_made : (sizes : Sizes) (R : Rows) (x y boxes : List ℤ) (route : List ℕ) (by_boxes : Bool) {s t : ℕ} (a : Result Found Refusal) {after : List ℕ}
    → SearchBy (record { boxes = by_boxes; masks = false }) sizes.n sizes.m R (box_signs x y boxes) s t route (paper a) after
    → Makes sizes (given R x y boxes route) (search_call by_boxes s t) (answer_line a after) (with_route after (given R x y boxes route))
search_made sizes R x y boxes route true a says = Makes.boxed a (boxed_says sizes.n sizes.m R x y boxes [] [] says)
search_made sizes R x y boxes route false a says = Makes.search a (plain_says sizes.n sizes.m R (box_signs x y boxes) says)
