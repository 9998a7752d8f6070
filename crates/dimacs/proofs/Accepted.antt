-- An accepted text's rows satisfy all limits, so that refusals 5, 8 and 9 of the other parts cannot follow a reading.
use mathlib.Core.Path.{◌≡◌, refl, sym, ap, ◌∙◌}
use mathlib.Core.List.{List, [], ◌∷◌, ◌++◌, map}
use mathlib.Core.Bool.{true, ◌&&◌}
use Prim.Native.Nat.{ℕ, zero, suc, ◌+◌, ◌≤◌, ◌<◌}
use native.Mathlib.Nat.{le_of_suc-le-suc}
use native.Mathlib.Omega.{arith}
use lib.Dec.{leb}
use lib.IntN.{ℤ, pos}
use lib.ListN.{length, get_or, drop}
use lib.Signed.{le_z, le_z_yes, ◌≤ℤ◌}
use borrow.Author.Tests.{leb-true}
use Rattle.rules.proofs.AndLaws.{and_true}
use Rattle.rules.proofs.JudgingLaws.{both_fine, passed}
use Rattle.rules.specs.Paper.{Reply, refusal, accepted}
use Rattle.rules.proofs.PaperLaws.{refusal_nonzero}
use Rattle.rules.specs.Limits.{most_nodes, most_arcs, most_queries, longest_text}
use Rattle.rules.specs.Judging.{or_else, passes}
use Rattle.rules.specs.declared.Refusal.{Refusal}
use Rattle.rules.specs.declared.Refusal.TheVariants.{TextTooLong, RowTooShort, BeyondLimits}
use Rattle.scan.specs.Fields.{none}
use Rattle.scan.specs.declared.holding.Numbers.{Numbers}
use Rattle.dimacs.specs.Gr.{gr_rules}
use Rattle.dimacs.specs.Co.{co_rules}
use Rattle.dimacs.specs.P2p.{p2p_rules}
use Rattle.dimacs.specs.Texts.{Outcome, read, refused, read_text}
use Rattle.dimacs.specs.Rules.{column_of}
use Rattle.dimacs.specs.Rows.{row, open_row}
use Rattle.dimacs.specs.Reading.{read_gr, gr_says, read_co, co_says, read_p2p, p2p_says}
use Rattle.dimacs.specs.Promise.{GrPromise, CoPromise, P2pPromise}
use Rattle.dimacs.specs.Accepted.{GrLimits, GrOpen, CoLimits, P2pLimits}
use Rattle.dimacs.specs.declared.format.Format.TheVariants.{Graph, Coordinates, Queries}
use Rattle.dimacs.specs.declared.rows.Column.TheVariants.{First, Second, Third}
use Rattle.dimacs.proofs.Fairness.{Inside, inside}
use Rattle.dimacs.proofs.Sound.{sound, onward}
use Rattle.dimacs.proofs.Replies.{gr_room}
use Rattle.dimacs.proofs.RowLaws.{opened_each, opened_long}
use Rattle.std.specs.Prelude.{Ok}

-- no refusal is an acceptance
pub not_accepted : (r : Refusal) (results : List ℕ) → refusal r ≡ accepted results → ⊥
not_accepted r results e = refusal_nonzero r (sym (ap (λ (x : Reply). x.number) e))

-- what stands in front of a row
pub front : {A : Type 0} (f : Numbers → A) (lines : List Numbers) (old : List A) (i : ℕ) (d : A) → i < length lines → get_or (map f lines ++ old) i d ≡ f (get_or lines i none)
front f [] old i d h = absurd (omega arith)
front f (l ∷ lines) old zero d h = refl
front f (l ∷ lines) old (suc i) d h = front f lines old i d (le_of_suc-le-suc h)

-- ---- the counts of an accepted text

pub gr_count : (text : List ℕ) (p : Numbers) (lines : List Numbers) → read_text Graph text ≡ read p lines → (p.second ≤ 2048) × (length lines ≡ p.second)
unfolding gr_rules
gr_count text p lines e = let s = sound Graph tt text p lines e in (s.most, s.long)

pub co_count : (n : ℕ) (text : List ℕ) (p : Numbers) (lines : List Numbers) → n ≤ 512 → read_text (Coordinates n) text ≡ read p lines → (p.first ≡ n) × (length lines ≡ p.first)
unfolding co_rules
co_count n text p lines h e =
    let s = sound (Coordinates n) h text p lines e in
    (omega (arith, s.fewest, s.most), s.long)

pub p2p_count : (n : ℕ) (text : List ℕ) (p : Numbers) (lines : List Numbers) → n ≤ 512 → read_text (Queries n) text ≡ read p lines → (p.first ≤ 256) × (length lines ≡ p.first)
unfolding p2p_rules
p2p_count n text p lines h e = let s = sound (Queries n) h text p lines e in (s.most, s.long)

-- ---- .gr

gr_lines : (text : List ℕ) (p : Numbers) (lines : List Numbers) (a b c : List ℕ) → read_text Graph text ≡ read p lines
    → GrLimits p.first p.second (map (column_of First) lines ++ a) (map (column_of Second) lines ++ b) (map (column_of Third) lines ++ c)
unfolding gr_rules
gr_lines text p lines a b c e =
    let s = sound Graph tt text p lines e in
    let i = inside (gr_rules p.first).problem p s.inside in
    let at : (k : ℕ) → k < p.second → k < length lines = λ k h. omega (arith, s.long) in
    let line : (k : ℕ) → k < p.second → Inside (gr_rules p.first).entries (get_or lines k none) = λ k h. inside (gr_rules p.first).entries (get_or lines k none) (s.entry k h).inside in
    record {
      some_node = i.low.first;
      nodes = i.high.first;
      arcs = i.high.second;
      tail_least = λ k h. rw (front (column_of First) lines a k 0 (at k h)) (line k h).low.first;
      tail_most = λ k h. rw (front (column_of First) lines a k 0 (at k h)) (line k h).high.first;
      head_least = λ k h. rw (front (column_of Second) lines b k 0 (at k h)) (line k h).low.second;
      head_most = λ k h. rw (front (column_of Second) lines b k 0 (at k h)) (line k h).high.second;
      weight = λ k h. rw (front (column_of Third) lines c k 0 (at k h)) (line k h).high.third;
    }

-- what was accepted was read
pub gr_read : (text a b c d : List ℕ) (p : Numbers) (lines : List Numbers) → read_gr text a b c d ≡ read p lines → read_text Graph text ≡ read p lines
unfolding read_gr
gr_read text a b c d p lines e = (onward _ _ _ _ e).1

gr_limits : (text a b c d : List ℕ) (n m : ℕ) → gr_says (read_gr text a b c d) ≡ accepted (n ∷ m ∷ [])
    → GrLimits n m (row (column_of First) (read_gr text a b c d) a) (row (column_of Second) (read_gr text a b c d) b) (row (column_of Third) (read_gr text a b c d) c)
unfolding gr_says row
gr_limits text a b c d n m e = by_outcome (read_gr text a b c d) (gr_read text a b c d) e
  where
    by_outcome : (o : Outcome) → ((p : Numbers) (lines : List Numbers) → o ≡ read p lines → read_text Graph text ≡ read p lines) → gr_says o ≡ accepted (n ∷ m ∷ [])
        → GrLimits n m (row (column_of First) o a) (row (column_of Second) o b) (row (column_of Third) o c)
    by_outcome (read p lines) from d =
        let en : p.first ≡ n = ap (λ (r : Reply). get_or r.values 0 0) d in
        let em : p.second ≡ m = ap (λ (r : Reply). get_or r.values 1 0) d in
        rw (← en, ← em) (gr_lines text p lines (drop (length lines) a) (drop (length lines) b) (drop (length lines) c) (from p lines refl))
    by_outcome (refused r) from d = absurd (not_accepted r (n ∷ m ∷ []) d)

-- and its rows were long enough
gr_lent : (text a b c d : List ℕ) (p : Numbers) (lines : List Numbers) → read_gr text a b c d ≡ read p lines → 2048 ≤ length d
unfolding read_gr
gr_lent text a b c d p lines e =
    let wide = leb most_arcs (length a) && leb most_arcs (length b) && leb most_arcs (length c) && leb most_arcs (length d) in
    let f = both_fine (passes (leb (length text) longest_text) TextTooLong) (or_else (passes wide RowTooShort) (Ok tt)) (onward _ _ _ _ e).0 in
    let g = both_fine (passes wide RowTooShort) (Ok tt) f.1 in
    (gr_room a b c d (passed _ _ g.0)).3

gr_open : (text a b c d : List ℕ) (n m : ℕ) → gr_says (read_gr text a b c d) ≡ accepted (n ∷ m ∷ []) → GrOpen m d (open_row (read_gr text a b c d) d)
unfolding gr_says open_row
gr_open text a b c d n m e = by_outcome (read_gr text a b c d) (gr_read text a b c d) (gr_lent text a b c d) e
  where
    by_outcome : (o : Outcome) → ((p : Numbers) (lines : List Numbers) → o ≡ read p lines → read_text Graph text ≡ read p lines)
        → ((p : Numbers) (lines : List Numbers) → o ≡ read p lines → 2048 ≤ length d) → gr_says o ≡ accepted (n ∷ m ∷ []) → GrOpen m d (open_row o d)
    by_outcome (read p lines) from room f =
        let em : p.second ≡ m = ap (λ (r : Reply). get_or r.values 1 0) f in
        let count = gr_count text p lines (from p lines refl) in
        let long = room p lines refl in
        record {
          each = λ i h. opened_each (length lines) (drop (length lines) d) i (omega (arith, em, count.1));
          long = opened_long (length lines) d (omega (arith, count.0, count.1, long));
        }
    by_outcome (refused r) from room f = absurd (not_accepted r (n ∷ m ∷ []) f)

-- ---- .co

shown : {a b : ℤ} → le_z a b ≡ true → a ≤ℤ b
shown {a} {b} e = le_z_yes (rw e tt)

co_lines : (n : ℕ) → n ≤ 512 → (text : List ℕ) (p : Numbers) (lines : List Numbers) (a b : List ℤ) → read_text (Coordinates n) text ≡ read p lines
    → CoLimits n (map (λ ns. ns.x) lines ++ a) (map (λ ns. ns.y) lines ++ b)
unfolding co_rules
co_lines n ok text p lines a b e =
    let s = sound (Coordinates n) ok text p lines e in
    let all : p.first ≡ n = (co_count n text p lines ok e).0 in
    let at : (k : ℕ) → k < n → k < length lines = λ k h. omega (arith, s.long) in
    let line : (k : ℕ) → k < n → Inside (co_rules n).entries (get_or lines k none) = λ k h. inside (co_rules n).entries (get_or lines k none) (s.entry k (omega arith)).inside in
    record {
      x_least = λ k h. rw (front (λ ns. ns.x) lines a k (pos 0) (at k h)) (shown (line k h).low.x);
      x_most = λ k h. rw (front (λ ns. ns.x) lines a k (pos 0) (at k h)) (shown (line k h).high.x);
      y_least = λ k h. rw (front (λ ns. ns.y) lines b k (pos 0) (at k h)) (shown (line k h).low.y);
      y_most = λ k h. rw (front (λ ns. ns.y) lines b k (pos 0) (at k h)) (shown (line k h).high.y);
    }

pub co_read : (text : List ℕ) (n : ℕ) (a b : List ℤ) (p : Numbers) (lines : List Numbers) → read_co text n a b ≡ read p lines
    → (1 ≤ n) × (n ≤ 512) × (read_text (Coordinates n) text ≡ read p lines)
unfolding read_co
co_read text n a b p lines e =
    let wide = leb most_nodes (length a) && leb most_nodes (length b) in
    let given = passes (leb 1 n && leb n most_nodes) (BeyondLimits 0) in
    let d = onward _ _ _ _ e in
    let f = both_fine (passes (leb (length text) longest_text) TextTooLong) (or_else (passes wide RowTooShort) (or_else given (Ok tt))) d.0 in
    let g = both_fine (passes wide RowTooShort) (or_else given (Ok tt)) f.1 in
    let h = both_fine given (Ok tt) g.1 in
    let i = and_true (leb 1 n) (leb n most_nodes) (passed _ _ h.0) in
    (leb-true _ _ i.0, leb-true _ _ i.1, d.1)

co_limits : (text : List ℕ) (n : ℕ) (a b : List ℤ) → co_says (read_co text n a b) ≡ accepted []
    → CoLimits n (row (λ ns. ns.x) (read_co text n a b) a) (row (λ ns. ns.y) (read_co text n a b) b)
unfolding co_says row
co_limits text n a b e = by_outcome (read_co text n a b) (co_read text n a b) e
  where
    by_outcome : (o : Outcome) → ((p : Numbers) (lines : List Numbers) → o ≡ read p lines → (1 ≤ n) × (n ≤ 512) × (read_text (Coordinates n) text ≡ read p lines)) → co_says o ≡ accepted []
        → CoLimits n (row (λ ns. ns.x) o a) (row (λ ns. ns.y) o b)
    by_outcome (read p lines) from d =
        let f = from p lines refl in
        co_lines n f.1 text p lines (drop (length lines) a) (drop (length lines) b) f.2
    by_outcome (refused r) from d = absurd (not_accepted r [] d)

-- each node has its line: at a node's place stands the line that names it
pub co_nodes : (text : List ℕ) (n : ℕ) (a b : List ℤ) (p : Numbers) (lines : List Numbers) → read_co text n a b ≡ read p lines
    → (length lines ≡ n) × ((i : ℕ) → i < n → (get_or lines i none).first ≡ i + 1)
unfolding co_rules
co_nodes text n a b p lines e =
    let f = co_read text n a b p lines e in
    let s = sound (Coordinates n) f.1 text p lines f.2 in
    let all : p.first ≡ n = (co_count n text p lines f.1 f.2).0 in
    (s.long ∙ all, λ i h. (s.entry i (omega arith)).node refl)

-- ---- .p2p

-- a query's ends are nodes
pub p2p_query_lem : (n : ℕ) → n ≤ 512 → (text : List ℕ) (p : Numbers) (lines : List Numbers) → read_text (Queries n) text ≡ read p lines
    → (i : ℕ) → i < length lines → Inside (p2p_rules n).entries (get_or lines i none)
unfolding p2p_rules
p2p_query_lem n ok text p lines e i h =
    let s = sound (Queries n) ok text p lines e in
    inside (p2p_rules n).entries (get_or lines i none) (s.entry i (omega (arith, s.long))).inside

p2p_lines : (n : ℕ) → n ≤ 512 → (text : List ℕ) (p : Numbers) (lines : List Numbers) (a b : List ℕ) → read_text (Queries n) text ≡ read p lines
    → P2pLimits n p.first (map (column_of First) lines ++ a) (map (column_of Second) lines ++ b)
unfolding p2p_rules
p2p_lines n ok text p lines a b e =
    let count = p2p_count n text p lines ok e in
    let at : (k : ℕ) → k < p.first → k < length lines = λ k h. omega (arith, count.1) in
    let line : (k : ℕ) → k < p.first → Inside (p2p_rules n).entries (get_or lines k none) = λ k h. p2p_query_lem n ok text p lines e k (at k h) in
    record {
      queries = count.0;
      source_least = λ k h. rw (front (column_of First) lines a k 0 (at k h)) (line k h).low.first;
      source_most = λ k h. rw (front (column_of First) lines a k 0 (at k h)) (line k h).high.first;
      target_least = λ k h. rw (front (column_of Second) lines b k 0 (at k h)) (line k h).low.second;
      target_most = λ k h. rw (front (column_of Second) lines b k 0 (at k h)) (line k h).high.second;
    }

pub p2p_read : (text : List ℕ) (n : ℕ) (answers : List ℕ) (p : Numbers) (lines : List Numbers) → read_p2p text n answers ≡ read p lines
    → (256 ≤ length answers) × (1 ≤ n) × (n ≤ 512) × (read_text (Queries n) text ≡ read p lines)
unfolding read_p2p
p2p_read text n answers p lines e =
    let wide = passes (leb most_queries (length answers)) RowTooShort in
    let given = passes (leb 1 n && leb n most_nodes) (BeyondLimits 0) in
    let d = onward _ _ _ _ e in
    let f = both_fine (passes (leb (length text) longest_text) TextTooLong) (or_else wide (or_else given (Ok tt))) d.0 in
    let g = both_fine wide (or_else given (Ok tt)) f.1 in
    let h = both_fine given (Ok tt) g.1 in
    let i = and_true (leb 1 n) (leb n most_nodes) (passed _ _ h.0) in
    (leb-true _ _ (passed _ _ g.0), leb-true _ _ i.0, leb-true _ _ i.1, d.1)

p2p_limits : (text : List ℕ) (n : ℕ) (answers a b : List ℕ) (k : ℕ) → p2p_says (read_p2p text n answers) ≡ accepted (k ∷ [])
    → P2pLimits n k (row (column_of First) (read_p2p text n answers) a) (row (column_of Second) (read_p2p text n answers) b)
unfolding p2p_says row
p2p_limits text n answers a b k e = by_outcome (read_p2p text n answers) (p2p_read text n answers) e
  where
    by_outcome : (o : Outcome) → ((p : Numbers) (lines : List Numbers) → o ≡ read p lines → (256 ≤ length answers) × (1 ≤ n) × (n ≤ 512) × (read_text (Queries n) text ≡ read p lines))
        → p2p_says o ≡ accepted (k ∷ []) → P2pLimits n k (row (column_of First) o a) (row (column_of Second) o b)
    by_outcome (read p lines) from d =
        let f = from p lines refl in
        let ek : p.first ≡ k = ap (λ (r : Reply). get_or r.values 0 0) d in
        rw (← ek) (p2p_lines n f.2 text p lines (drop (length lines) a) (drop (length lines) b) f.3)
    by_outcome (refused r) from d = absurd (not_accepted r (k ∷ []) d)

-- ---- the rows that a reader leaves after it accepted

module _ (text a b c d : List ℕ) (n m : ℕ) (a' b' c' d' : List ℕ) (p : GrPromise text a b c d (Ok (record { n = n; m = m })) a' b' c' d') where
  pub read_gr_limits : GrLimits n m a' b' c'
  read_gr_limits = rw (p.tails_left, p.heads_left, p.weights_left) (gr_limits text a b c d n m (sym p.reply))

  pub read_gr_open : GrOpen m d d'
  read_gr_open = rw p.closures_left (gr_open text a b c d n m (sym p.reply))

pub read_co_limits : (text : List ℕ) (n : ℕ) (a b a' b' : List ℤ) → CoPromise text n a b (Ok tt) a' b' → CoLimits n a' b'
read_co_limits text n a b a' b' p = rw (p.x_left, p.y_left) (co_limits text n a b (sym p.reply))

pub read_p2p_limits : (text : List ℕ) (n : ℕ) (answers a b : List ℕ) (k : ℕ) (a' b' : List ℕ) → P2pPromise text n answers a b (Ok k) a' b' → P2pLimits n k a' b'
read_p2p_limits text n answers a b k a' b' p = rw (p.sources_left, p.targets_left) (p2p_limits text n answers a b k (sym p.reply))
