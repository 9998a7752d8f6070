-- What `answer_all` says: the one relation between what is lent, the reply and the row of answers afterwards.
use Rattle.std.specs.Prelude.{ℕ, ◌≡◌, List, [], ◌∷◌, ◌++◌, map, ℤ, length, drop, Err}
use Rattle.rules.specs.Paper.{Reply, accepted, refusal}
use Rattle.rules.specs.Judging.{fine}
use Rattle.rules.specs.declared.Refusal.{Refusal}
use Rattle.scan.specs.declared.holding.Numbers.{Numbers}
use Rattle.dimacs.specs.Texts.{read, refused}
use Rattle.dimacs.specs.Reading.{read_p2p}
use Rattle.walks.specs.Rows.{Rows}
use Rattle.passing.specs.Signs.{boxes_alone, box_signs}
use Rattle.judging.specs.Order.{day_judged}
use Rattle.daylist.specs.Replies.{Replies, entry, with_route, with_none, total}

-- The text is judged first, with the row of answers, then the rows of the search. A refusal leaves the row as it was. Else each query is
-- answered: the first K places of the row are filled, and the others keep their contents.
pub data DaySays (text : List ℕ) (n m : ℕ) (R : Rows) (x y boxes : List ℤ) (before : List ℕ) : Reply → List ℕ → Type 0 where
  text_refused : {r : Refusal} → read_p2p text n before ≡ refused r → DaySays text n m R x y boxes before (refusal r) before
  rows-refused : {problem : Numbers} {queries : List Numbers} {r : Refusal} → read_p2p text n before ≡ read problem queries
      → day_judged boxes_alone n m R (box_signs x y boxes) ≡ Err r → DaySays text n m R x y boxes before (refusal r) before
  answered : {problem : Numbers} {queries : List Numbers} {replies : List Reply} → read_p2p text n before ≡ read problem queries
      → day_judged boxes_alone n m R (box_signs x y boxes) ≡ fine → Replies n m R x y boxes queries replies
      → DaySays text n m R x y boxes before (accepted (with_route replies ∷ with_none replies ∷ total replies ∷ []))
      (map entry replies ++ drop (length replies) before)
