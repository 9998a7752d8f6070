-- The readers: what is judged before the first line, the text, and what the paper is told.
use Rattle.std.specs.Prelude.{ℕ, List, [], ◌∷◌, ◌&&◌, leb, ℤ, length, Result, Ok, Err}
use Rattle.rules.specs.Limits.{most_nodes, most_arcs, most_queries, longest_text}
use Rattle.rules.specs.Judging.{Judged, in_turn, passes}
use Rattle.rules.specs.Paper.{Reply, refusal, accepted}
use Rattle.rules.specs.declared.Refusal.{Refusal}
use Rattle.rules.specs.declared.Refusal.TheVariants.{TextTooLong, RowTooShort, BeyondLimits}
use Rattle.dimacs.specs.Texts.{Outcome, read, refused, on_judged, read_text}
use Rattle.dimacs.specs.declared.format.Format.TheVariants.{Graph, Coordinates, Queries}
use Rattle.rules.specs.declared.Sizes.{Sizes}

-- The paper's reply of each answer.

abbrev pub gr_reply : Result Sizes Refusal → Reply
gr_reply (Ok s) = accepted (s.n ∷ s.m ∷ [])
gr_reply (Err r) = refusal r

abbrev pub co_reply : Judged → Reply
co_reply (Ok _) = accepted []
co_reply (Err r) = refusal r

abbrev pub p2p_reply : Result ℕ Refusal → Reply
p2p_reply (Ok k) = accepted (k ∷ [])
p2p_reply (Err r) = refusal r

-- .gr: 1, 2, then the lines.

unfoldable pub read_gr : List ℕ → List ℕ → List ℕ → List ℕ → List ℕ → Outcome
read_gr text tails heads weights closures =
    on_judged
    (in_turn (
    passes (leb (length text) longest_text) TextTooLong
    ∷ passes (leb most_arcs (length tails) && leb most_arcs (length heads) && leb most_arcs (length weights) && leb most_arcs (length closures)) RowTooShort
    ∷ []
    ))
    (read_text Graph text)

-- n and m, or the refusal
unfoldable pub gr_says : Outcome → Reply
gr_says (read problem lines) = accepted (problem.first ∷ problem.second ∷ [])
gr_says (refused r) = refusal r

-- .co: 1, 2, 5 for the given n, then the lines.

unfoldable pub read_co : List ℕ → ℕ → List ℤ → List ℤ → Outcome
read_co text n x y =
    on_judged
    (in_turn (
    passes (leb (length text) longest_text) TextTooLong
    ∷ passes (leb most_nodes (length x) && leb most_nodes (length y)) RowTooShort
    ∷ passes (leb 1 n && leb n most_nodes) (BeyondLimits 0)
    ∷ []
    ))
    (read_text (Coordinates n) text)

unfoldable pub co_says : Outcome → Reply
co_says (read problem lines) = accepted []
co_says (refused r) = refusal r

-- .p2p: 1, 2 for the row of answers, 5 for the given n, then the lines.

unfoldable pub read_p2p : List ℕ → ℕ → List ℕ → Outcome
read_p2p text n answers =
    on_judged
    (in_turn (
    passes (leb (length text) longest_text) TextTooLong
    ∷ passes (leb most_queries (length answers)) RowTooShort
    ∷ passes (leb 1 n && leb n most_nodes) (BeyondLimits 0)
    ∷ []
    ))
    (read_text (Queries n) text)

-- K, or the refusal
unfoldable pub p2p_says : Outcome → Reply
p2p_says (read problem lines) = accepted (problem.first ∷ [])
p2p_says (refused r) = refusal r
