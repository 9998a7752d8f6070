-- Rows that a reader left are not refused by a writer: 5, 2 for the number rows, 8 and 9 cannot follow a reading.
use Rattle.std.specs.Prelude.{Ok}
use Prim.Native.Nat.{ℕ, ◌+◌, ◌-◌, ◌<◌, ◌≤◌}
use mathlib.Core.Path.{◌≡◌, refl, sym, ap}
use mathlib.Core.Bool.{Bool, true, false}
use mathlib.Core.List.{List, [], ◌∷◌, ◌++◌, map}
use native.Mathlib.Omega.{arith}
use lib.Dec.{T}
use lib.IntN.{ℤ, pos}
use lib.Signed.{le_z}
use lib.ListN.{length, drop, get_or, length-append}
use borrow.Author.Tests.{le-leb}
use Rattle.rules.specs.Limits.{least_coordinate, most_coordinate}
use Rattle.rules.specs.Paper.{Reply, accepted}
use Rattle.rules.proofs.JudgingLaws.{each_fine}
use Rattle.rules.specs.declared.Refusal.TheVariants.{BadArc, BadCoordinate}
use Rattle.scan.specs.Fields.{none}
use Rattle.scan.specs.declared.holding.Numbers.{Numbers}
use Rattle.dimacs.specs.Rules.{column_of}
use Rattle.dimacs.specs.Texts.{Outcome, read, refused, read_text}
use Rattle.dimacs.specs.declared.format.Format.TheVariants.{Graph, Coordinates}
use Rattle.dimacs.specs.Rows.{row}
use Rattle.dimacs.specs.Reading.{read_gr, gr_says, read_co, co_says}
use Rattle.dimacs.specs.Promise.{GrPromise, CoPromise}
use Rattle.dimacs.specs.declared.rows.Column.TheVariants.{First, Second, Third}
use Rattle.dimacs.proofs.Accepted.{gr_count, gr_read, co_read, co_nodes, not_accepted, read_gr_limits, read_co_limits}
use Rattle.walks.specs.Rows.{open_rows, at}
use Rattle.judging.specs.Order.{good_arc, good_place, arcs_judged}
use Rattle.writing.specs.Writes.{places_judged}

map_long : {A : Type 0} (f : Numbers → A) (lines : List Numbers) → length (map f lines) ≡ length lines
map_long f [] = refl
map_long f (l ∷ lines) = let e = map_long f lines in omega arith

-- a row that was filled has as many places as lines were read
filled_long : {A : Type 0} (f : Numbers → A) (lines : List Numbers) (old : List A) → length lines ≤ length (map f lines ++ old)
filled_long f lines old = let a = length-append (map f lines) old in let b = map_long f lines in omega arith

module _ (text a b c d : List ℕ) (n m : ℕ) (a' b' c' d' : List ℕ) (p : GrPromise text a b c d (Ok (record { n = n; m = m })) a' b' c' d') where
  long : (m ≤ length a') × (m ≤ length b') × (m ≤ length c')
  unfolding gr_says row
  long = by_outcome (read_gr text a b c d) (gr_read text a b c d) p.reply p.tails_left p.heads_left p.weights_left
    where
      by_outcome : (o : Outcome) → ((q : Numbers) (lines : List Numbers) → o ≡ read q lines → read_text Graph text ≡ read q lines) → accepted (n ∷ m ∷ []) ≡ gr_says o
          → a' ≡ row (column_of First) o a → b' ≡ row (column_of Second) o b → c' ≡ row (column_of Third) o c → (m ≤ length a') × (m ≤ length b') × (m ≤ length c')
      by_outcome (read q lines) from e ta tb tc =
          let em : m ≡ q.second = ap (λ (r : Reply). get_or r.values 1 0) e in
          let all : length lines ≡ q.second = (gr_count text q lines (from q lines refl)).1 in
          let first = filled_long (column_of First) lines (drop (length lines) a) in
          let second = filled_long (column_of Second) lines (drop (length lines) b) in
          let third = filled_long (column_of Third) lines (drop (length lines) c) in
          (rw ta (omega arith), rw tb (omega arith), rw tc (omega arith))
      by_outcome (refused r) from e ta tb tc = absurd (not_accepted r (n ∷ m ∷ []) (sym e))

  pub network-again : arcs_judged n m (open_rows a' b' c') true ≡ Ok tt
  unfolding arcs_judged
  network-again =
      let g = read_gr_limits text a b c d n m a' b' c' d' p in
      let good = each_fine (λ (e : ℕ). good_arc n (at a' e) (at b' e) (at c' e)) BadArc m (λ i low high.
      let h : i - 1 < m = omega arith in
      rw (
        le-leb 1 (get_or a' (i - 1) 0) (g.tail_least (i - 1) h),
        le-leb (get_or a' (i - 1) 0) n (g.tail_most (i - 1) h),
        le-leb 1 (get_or b' (i - 1) 0) (g.head_least (i - 1) h),
        le-leb (get_or b' (i - 1) 0) n (g.head_most (i - 1) h),
        le-leb (get_or c' (i - 1) 0) 1000000 (g.weight (i - 1) h),
      )) in
      rw (le-leb 1 n g.some_node, le-leb n 512 g.nodes, le-leb m 2048 g.arcs, le-leb m (length a') long.0, le-leb m (length b') long.1, le-leb m (length c') long.2, good)

is_true : (z : Bool) → T z → z ≡ true
is_true true t = refl
is_true false t = absurd t

module _ (text : List ℕ) (n : ℕ) (a b a' b' : List ℤ) (p : CoPromise text n a b (Ok tt) a' b') where
  placed : (1 ≤ n) × (n ≤ 512) × (n ≤ length a') × (n ≤ length b')
  unfolding co_says row
  placed = by_outcome (read_co text n a b) (co_read text n a b) (co_nodes text n a b) p.reply p.x_left p.y_left
    where
      by_outcome : (o : Outcome) → ((q : Numbers) (lines : List Numbers) → o ≡ read q lines → (1 ≤ n) × (n ≤ 512) × (read_text (Coordinates n) text ≡ read q lines))
          → ((q : Numbers) (lines : List Numbers) → o ≡ read q lines → (length lines ≡ n) × ((i : ℕ) → i < n → (get_or lines i none).first ≡ i + 1)) → accepted [] ≡ co_says o
          → a' ≡ row (λ (ns : Numbers). ns.x) o a → b' ≡ row (λ (ns : Numbers). ns.y) o b → (1 ≤ n) × (n ≤ 512) × (n ≤ length a') × (n ≤ length b')
      by_outcome (read q lines) given nodes d ta tb =
          let all : length lines ≡ n = (nodes q lines refl).0 in
          let g = given q lines refl in
          let first = filled_long (λ (ns : Numbers). ns.x) lines (drop (length lines) a) in
          let second = filled_long (λ (ns : Numbers). ns.y) lines (drop (length lines) b) in
          (g.0, g.1, rw ta (omega arith), rw tb (omega arith))
      by_outcome (refused r) given nodes d ta tb = absurd (not_accepted r [] (sym d))

  pub places_again : places_judged n a' b' ≡ Ok tt
  unfolding places_judged
  places_again =
      let g = read_co_limits text n a b a' b' p in
      let good = each_fine (good_place a' b') BadCoordinate n (λ i low high.
      let h : i - 1 < n = omega arith in
      let x = get_or a' (i - 1) (pos 0) in
      let y = get_or b' (i - 1) (pos 0) in
      rw (
        is_true (le_z least_coordinate x) (g.x_least (i - 1) h).le,
        is_true (le_z x most_coordinate) (g.x_most (i - 1) h).le,
        is_true (le_z least_coordinate y) (g.y_least (i - 1) h).le,
        is_true (le_z y most_coordinate) (g.y_most (i - 1) h).le,
      )) in
      rw (le-leb 1 n placed.0, le-leb n 512 placed.1, le-leb n (length a') placed.2, le-leb n (length b') placed.3, good)
