-- The lines as they are put together, piece by piece.
use Prim.Native.Nat.{ℕ}
use mathlib.Core.Path.{◌≡◌, sym}
use mathlib.Core.List.{List, [], ◌∷◌, ◌++◌, append_assoc, append-nil}
use Rattle.scan.specs.Written.{spread, line_text, closed}
use Rattle.dimacs.specs.Gr.{gr_problem, gr_arc}
use Rattle.dimacs.specs.Co.{co_problem, co_node}
use Rattle.writing.proofs.FormLaws.{arc_spelt, gr_spelt, co_spelt, node_spelt}

-- what is put in pieces is put as one: a letter and a number, further numbers, and byte 10
one_piece : (p a : List ℕ) → (p ++ a) ++ (10 ∷ []) ≡ p ++ ((a ++ []) ++ (10 ∷ []))
one_piece p a = rw append-nil (append_assoc p a (10 ∷ []))

two_pieces : (p a v : List ℕ) → ((p ++ a) ++ (32 ∷ v)) ++ (10 ∷ []) ≡ p ++ ((a ++ (32 ∷ (v ++ []))) ++ (10 ∷ []))
two_pieces p a v = simp (append_assoc, append-nil)

three_pieces : (p a v w : List ℕ) → (((p ++ a) ++ (32 ∷ v)) ++ (32 ∷ w)) ++ (10 ∷ []) ≡ p ++ ((a ++ (32 ∷ (v ++ (32 ∷ (w ++ []))))) ++ (10 ∷ []))
three_pieces p a v w = simp (append_assoc, append-nil)

module _ (p : List ℕ) where
  -- a letter, three numbers, and byte 10
  pub arc_put : (u v w : List ℕ) → p ++ closed (line_text gr_arc (u ∷ v ∷ w ∷ []) ∷ []) ≡ (((p ++ (97 ∷ 32 ∷ u)) ++ (32 ∷ v)) ++ (32 ∷ w)) ++ (10 ∷ [])
  unfolding spread closed
  arc_put u v w = rw (arc_spelt u v w) (sym (three_pieces p (97 ∷ 32 ∷ u) v w))

  pub node_put : (u v w : List ℕ) → p ++ closed (line_text co_node (u ∷ v ∷ w ∷ []) ∷ []) ≡ (((p ++ (118 ∷ 32 ∷ u)) ++ (32 ∷ v)) ++ (32 ∷ w)) ++ (10 ∷ [])
  unfolding spread closed
  node_put u v w = rw (node_spelt u v w) (sym (three_pieces p (118 ∷ 32 ∷ u) v w))

  pub gr_put : (n m : List ℕ) → p ++ closed (line_text gr_problem (n ∷ m ∷ []) ∷ []) ≡ ((p ++ (112 ∷ 32 ∷ 115 ∷ 112 ∷ 32 ∷ n)) ++ (32 ∷ m)) ++ (10 ∷ [])
  unfolding spread closed
  gr_put n m = rw (gr_spelt n m) (sym (two_pieces p (112 ∷ 32 ∷ 115 ∷ 112 ∷ 32 ∷ n) m))

  pub co_put : (n : List ℕ) → p ++ closed (line_text co_problem (n ∷ []) ∷ []) ≡ (p ++ (112 ∷ 32 ∷ 97 ∷ 117 ∷ 120 ∷ 32 ∷ 115 ∷ 112 ∷ 32 ∷ 99 ∷ 111 ∷ 32 ∷ n)) ++ (10 ∷ [])
  unfolding spread closed
  co_put n = rw (co_spelt n) (sym (one_piece p (112 ∷ 32 ∷ 97 ∷ 117 ∷ 120 ∷ 32 ∷ 115 ∷ 112 ∷ 32 ∷ 99 ∷ 111 ∷ 32 ∷ n)))
