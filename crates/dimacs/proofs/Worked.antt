-- The worked files of the paper are read with exactly their rows, and its malformed lines refused.
use mathlib.Core.Path.{◌≡◌, refl}
use mathlib.Core.List.{List, [], ◌∷◌, ◌++◌}
use mathlib.Core.Bool.{true, ◌&&◌}
use Prim.Native.Nat.{ℕ}
use lib.Dec.{leb}
use native.Mathlib.Omega.{arith}
use lib.IntN.{ℤ, pos, negsuc}
use lib.ListN.{length, drop}
use Rattle.rules.specs.Paper.{accepted}
use Rattle.rules.specs.declared.Refusal.TheVariants.{EmptyLine, OutOfOrder, BeyondLimits, CountsDisagree, NoLetter, Misspelt, FieldCount}
use Rattle.scan.specs.Ascii.{bytes}
use Rattle.scan.specs.Pieces.{opening, pieces, first_at}
use Rattle.scan.specs.Numbers.{value_from, natural_of, negated, integer_of}
use Rattle.scan.specs.Fields.{before, taken, on_field, matched}
use Rattle.scan.specs.Line.{line_of}
use Rattle.dimacs.specs.Rules.{naturals, located, within}
use Rattle.dimacs.specs.Gr.{gr_line, gr_rules}
use Rattle.dimacs.specs.Co.{co_line, co_rules}
use Rattle.dimacs.specs.P2p.{p2p_line, p2p_rules}
use Rattle.dimacs.specs.Judgement.{problem_judged, data_judged, judged, ended}
use Rattle.dimacs.specs.Texts.{Outcome, read, refused, next, on_judged, read_lines, read_text}
use Rattle.dimacs.specs.Rules.{column_of}
use Rattle.dimacs.specs.Rows.{row, open_row}
use Rattle.dimacs.specs.Reading.{read_gr, gr_says, read_co, co_says}
use Rattle.dimacs.specs.declared.format.Format.TheVariants.{Graph, Coordinates, Queries}
use Rattle.dimacs.specs.declared.rows.Column.TheVariants.{First, Second, Third}
use Rattle.dimacs.proofs.Replies.{gr_text_lem, co_text_lem}

pub net_gr : List ℕ
net_gr = bytes "c four block ends\np sp 4 6\na 1 2 3\na 2 3 2\na 1 3 5\na 3 4 1\na 1 4 9\na 4 1 4\n"

pub net_co : List ℕ
net_co = bytes "p aux sp co 4\nv 1 0 0\nv 2 10 0\nv 3 10 5\nv 4 -5 20\n"

-- a text of a graph with the line, after a problem line; and of coordinates for two nodes
abbrev gr : List ℕ → Outcome
gr line = read_text Graph (bytes "p sp 2 1\n" ++ line)

abbrev co : List ℕ → Outcome
co line = read_text (Coordinates 2) (bytes "p aux sp co 2\n" ++ line)

pub worked_texts :
    (read_text Graph net_gr ≡ read (naturals 4 6 0) (naturals 1 2 3 ∷ naturals 2 3 2 ∷ naturals 1 3 5 ∷ naturals 3 4 1 ∷ naturals 1 4 9 ∷ naturals 4 1 4 ∷ []))
    × (read_text (Coordinates 4) net_co
    ≡ read (naturals 4 0 0) (located 1 (pos 0) (pos 0) ∷ located 2 (pos 10) (pos 0) ∷ located 3 (pos 10) (pos 5) ∷ located 4 (negsuc 4) (pos 20) ∷ []))
    × (gr (bytes "a 1 2 -3") ≡ refused (Misspelt 2 7))
    × (gr (bytes "a 1 2 1000001") ≡ refused (BeyondLimits 2))
    × (co (bytes "v 0 1 1") ≡ refused (BeyondLimits 2))
    × (co (bytes "v 1 07 1") ≡ refused (Misspelt 2 5))
    × (read_text Graph [] ≡ refused (CountsDisagree 1))
    × (read_text (Coordinates 2) [] ≡ refused (CountsDisagree 1))
unfolding net_gr net_co bytes opening pieces first_at value_from natural_of negated integer_of before taken on_field matched line_of
    within gr_line gr_rules co_line co_rules problem_judged data_judged judged ended next on_judged read_lines read_text
worked_texts = (refl, refl, refl, refl, refl, refl, refl, refl)

-- each kind of fault, with line and column; a letter is permitted by the kind of file, and its words are later fields
pub worked_faults :
    (gr (bytes "\n") ≡ refused (EmptyLine 2 1))
    × (gr (bytes "v 1 0 0") ≡ refused (NoLetter 2 1))
    × (co (bytes "a 1 2 3") ≡ refused (NoLetter 2 1))
    × (gr (bytes "p aux sp co 4") ≡ refused (Misspelt 2 3))
    × (gr (bytes "a 1 2") ≡ refused (FieldCount 2 6))
    × (co (bytes "v 1 0 0 ") ≡ refused (FieldCount 2 9))
unfolding bytes opening pieces first_at value_from natural_of negated integer_of before taken on_field matched line_of
    within gr_line gr_rules co_line co_rules problem_judged data_judged judged ended next on_judged read_lines read_text
worked_faults = (refl, refl, refl, refl, refl, refl)

-- a day's list for two nodes: K queries in order, the same one twice; K above 256, a query beyond K and one that also names no
-- node, queries lacking
abbrev p2p : List ℕ → Outcome
p2p text = read_text (Queries 2) text

pub worked_lists :
    (p2p (bytes "p aux sp p2p 3\nq 1 2\nc\nq 2 2\nq 1 2") ≡ read (naturals 3 0 0) (naturals 1 2 0 ∷ naturals 2 2 0 ∷ naturals 1 2 0 ∷ []))
    × (p2p (bytes "p aux sp p2p 0\n") ≡ read (naturals 0 0 0) [])
    × (p2p (bytes "p aux sp p2p 257\n") ≡ refused (BeyondLimits 1))
    × (p2p (bytes "p aux sp p2p 1\nq 1 3") ≡ refused (BeyondLimits 2))
    × (p2p (bytes "p aux sp p2p 1\nq 1 2\nq 2 1\n") ≡ refused (CountsDisagree 3))
    × (p2p (bytes "p aux sp p2p 1\nq 1 2\nq 0 1\n") ≡ refused (BeyondLimits 3))
    × (p2p (bytes "p aux sp p2p 2\nq 1 2\n") ≡ refused (CountsDisagree 3))
    × (p2p [] ≡ refused (CountsDisagree 1))
    × (p2p (bytes "q 1 2\n") ≡ refused (OutOfOrder 1))
    × (p2p (bytes "p aux sp co 1\n") ≡ refused (Misspelt 1 10))
    × (p2p (bytes "p aux sp p2p 1\nq 1 2 3\n") ≡ refused (FieldCount 2 7))
unfolding bytes opening pieces first_at value_from natural_of negated integer_of before taken on_field matched line_of
    within p2p_line p2p_rules problem_judged data_judged judged ended next on_judged read_lines read_text
worked_lists = (refl, refl, refl, refl, refl, refl, refl, refl, refl, refl, refl)

-- whatever rows are lent
pub net_gr_read : (tails heads weights closures : List ℕ)
    → leb 2048 (length tails) && leb 2048 (length heads) && leb 2048 (length weights) && leb 2048 (length closures) ≡ true
    → (gr_says (read_gr net_gr tails heads weights closures) ≡ accepted (4 ∷ 6 ∷ []))
    × (row (column_of First) (read_gr net_gr tails heads weights closures) tails ≡ 1 ∷ 2 ∷ 1 ∷ 3 ∷ 1 ∷ 4 ∷ drop 6 tails)
    × (row (column_of Second) (read_gr net_gr tails heads weights closures) heads ≡ 2 ∷ 3 ∷ 3 ∷ 4 ∷ 4 ∷ 1 ∷ drop 6 heads)
    × (row (column_of Third) (read_gr net_gr tails heads weights closures) weights ≡ 3 ∷ 2 ∷ 5 ∷ 1 ∷ 9 ∷ 4 ∷ drop 6 weights)
    × (open_row (read_gr net_gr tails heads weights closures) closures ≡ 0 ∷ 0 ∷ 0 ∷ 0 ∷ 0 ∷ 0 ∷ drop 6 closures)
unfolding gr_says row open_row net_gr bytes
net_gr_read tails heads weights closures h = rw (gr_text_lem net_gr tails heads weights closures (omega arith) h, worked_texts.0) (refl, refl, refl, refl, refl)

pub net_co_read : (x y : List ℤ) → leb 512 (length x) && leb 512 (length y) ≡ true
    → (co_says (read_co net_co 4 x y) ≡ accepted [])
    × (row (λ ns. ns.x) (read_co net_co 4 x y) x ≡ pos 0 ∷ pos 10 ∷ pos 10 ∷ negsuc 4 ∷ drop 4 x)
    × (row (λ ns. ns.y) (read_co net_co 4 x y) y ≡ pos 0 ∷ pos 0 ∷ pos 5 ∷ pos 20 ∷ drop 4 y)
unfolding co_says row net_co bytes
net_co_read x y h = rw (co_text_lem net_co 4 x y (omega arith) h refl, worked_texts.1) (refl, refl, refl)
