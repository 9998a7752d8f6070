-- The same for coordinates.
use Rattle.std.specs.Prelude.{Ok}
use Rattle.rules.specs.Judging.{Judged}
use mathlib.Core.Path.{◌≡◌, refl, sym, ap, subst, ◌∙◌}
use mathlib.Core.List.{List, [], ◌∷◌, ◌++◌, map}
use mathlib.Core.Bool.{Bool, true, false}
use Prim.Native.Nat.{ℕ, zero, suc, ◌+◌, ◌-◌, ◌≤◌, ◌<◌}
use native.Mathlib.Omega.{arith}
use native.Mathlib.Numerals.{add-one}
use lib.Dec.{T}
use lib.IntN.{ℤ, pos, negsuc}
use lib.Signed.{le_z}
use lib.ListN.{length, get_or, drop}
use borrow.Author.Tests.{le-leb}
use Rattle.rules.specs.Paper.{accepted}
use Rattle.scan.specs.Pieces.{lines_of}
use Rattle.scan.specs.Fields.{none}
use Rattle.scan.specs.Decimal.{decimal, whole}
use Rattle.scan.specs.Written.{line_text, closed, listed}
use Rattle.scan.specs.declared.holding.Numbers.{Numbers}
use Rattle.scan.specs.declared.line.Line.TheVariants.{Problem}
use Rattle.dimacs.specs.Rules.{naturals, located, within}
use Rattle.dimacs.specs.Co.{co_problem, co_node, co_line, co_rules}
use Rattle.dimacs.specs.Texts.{Outcome, read, refused, start, read_lines, read_text}
use Rattle.dimacs.specs.Rows.{row}
use Rattle.dimacs.specs.Reading.{read_co, co_says}
use Rattle.dimacs.specs.Promise.{CoPromise}
use Rattle.dimacs.specs.Accepted.{CoLimits}
use Rattle.dimacs.specs.declared.format.Format.TheVariants.{Coordinates}
use Rattle.dimacs.proofs.Fairness.{Inside, inside}
use Rattle.dimacs.proofs.Sound.{Entry}
use Rattle.dimacs.proofs.Accepted.{co_count, co_nodes, not_accepted, front, co_read as co-accepted}
use Rattle.dimacs.proofs.Replies.{co_text_lem}
use Rattle.dimacs.proofs.Unique.{co_reply_injective}
use Rattle.geometry.specs.Row.{coordinate}
use Rattle.writing.specs.Text.{node_text, co_text}
use Rattle.scan.specs.Line.{is_comment}
use Rattle.writing.specs.Plain.{nodes_of, Ascending, PlainCo}
use Rattle.scan.proofs.WrittenLaws.{Without, more, lines_closed, closed_lines, last_closed, listed_long, listed_at, listed-map, map-listed}
use Rattle.scan.proofs.FormLaws.{uncommented}
use Rattle.writing.proofs.FormLaws.{node_clear, co_clear, co_spelt, node_spelt, co_written, node_written, co_read, node_read}
use Rattle.writing.proofs.TextLaws.{data_of}
use Rattle.writing.proofs.BeginLaws.{open_line, read_all, begun, in_order, lines_of_lem}
use Rattle.writing.proofs.LengthLaws.{co_most}
use Rattle.writing.proofs.GrTrip.{line_clear, clear_listed, together}

-- ---- the lines of a text that is written

node_one : (x y : List ℤ) (v : ℕ) → Without 10 (node_text x y v)
node_one x y v =
    let a = coordinate x v in let b = coordinate y v in
    rw (node_spelt (decimal v) (whole a) (whole b)) (line_clear 118 (decimal v) (whole a ∷ whole b ∷ []) (λ e. omega arith) (node_clear 10 (omega arith) v a b))

co_lines : (n : ℕ) (x y : List ℤ) → lines_of (co_text n x y) ≡ line_text co_problem (decimal n ∷ []) ∷ listed (node_text x y) n
unfolding co_text
co_lines n x y =
    lines_closed (line_text co_problem (decimal n ∷ []) ∷ listed (node_text x y) n)
    (more (rw (co_spelt (decimal n)) (line_clear 112 (97 ∷ 117 ∷ 120 ∷ []) ((115 ∷ 112 ∷ []) ∷ (99 ∷ 111 ∷ []) ∷ decimal n ∷ []) (λ e. omega arith) (co_clear 10 (omega arith) n)))
    (clear_listed 10 (node_text x y) (node_one x y) n))

-- ---- (i) reading what was written

abbrev pub node_numbers : List ℤ → List ℤ → ℕ → Numbers
node_numbers x y v = located v (coordinate x v) (coordinate y v)

is_true : (b : Bool) → T b → b ≡ true
is_true true t = refl
is_true false t = absurd t

problem_within : (n : ℕ) → 1 ≤ n → n ≤ 512 → within (co_rules n).problem (naturals n 0 0) ≡ true
unfolding within co_rules
problem_within n a b = rw (le-leb 1 n a, le-leb n 512 b)

node_within : (n v : ℕ) (x y : ℤ) → 1 ≤ v → v ≤ n → le_z (negsuc 999999) x ≡ true → le_z x (pos 1000000) ≡ true → le_z (negsuc 999999) y ≡ true → le_z y (pos 1000000) ≡ true
    → within (co_rules n).entries (located v x y) ≡ true
unfolding within co_rules
node_within n v x y a b c d e f = rw (le-leb 1 v a, le-leb v n b, c, d, e, f)

module _ (n : ℕ) (some : 1 ≤ n) (few : n ≤ 512) (x y : List ℤ) (g : CoLimits n x y) where
  node_entry : (i : ℕ) → i < n → Entry (co_rules n) i (node_numbers x y (i + 1))
  node_entry i h =
      let one : i + 1 - 1 ≡ i = omega arith in
      record {
        inside = rw one (node_within n (i + 1) (get_or x i (pos 0)) (get_or y i (pos 0)) (omega arith) (omega arith)
            (is_true _ (g.x_least i h).le) (is_true _ (g.x_most i h).le) (is_true _ (g.y_least i h).le) (is_true _ (g.y_most i h).le));
        node = λ o. refl;
      }

  -- the text is accepted for a graph of n nodes, with the coordinates
  pub co_text_read : read_text (Coordinates n) (co_text n x y) ≡ read (naturals n 0 0) (listed (node_numbers x y) n)
  unfolding read_text co_rules
  co_text_read =
      let F = Coordinates n in
      let first = line_text co_problem (decimal n ∷ []) in
      let same = map-listed co_line (node_text x y) (λ (v : ℕ). data_of (node_numbers x y v)) (λ v. node_written v (coordinate x v) (coordinate y v)) n in
      let also = map-listed data_of (node_numbers x y) (λ (v : ℕ). data_of (node_numbers x y v)) (λ v. refl) n in
      ap (λ (ls : List (List ℕ)). read_lines F ls 1 start) (co_lines n x y)
      ∙ (open_line F (naturals n 0 0) first (listed (node_text x y) n) (co_written n) (problem_within n some few) (omega arith) (omega arith)
      ∙ read_all F (naturals n 0 0) (listed (node_text x y) n) (listed (node_numbers x y) n) (same ∙ sym also) (listed_long (node_numbers x y) n) (omega arith)
      (λ i h. let k : i < n = omega (arith, listed_long (node_numbers x y) n) in rw (listed_at (node_numbers x y) n i none k) (node_entry i k)))

  module _ (a b : List ℤ) (la : 512 ≤ length a) (lb : 512 ≤ length b) where
    co_back : read_co (co_text n x y) n a b ≡ read (naturals n 0 0) (listed (node_numbers x y) n)
    co_back =
        let most = co_most n few x y g in
        co_text_lem (co_text n x y) n a b (omega arith) (rw (le-leb 512 (length a) la, le-leb 512 (length b) lb)) (rw (le-leb 1 n some, le-leb n 512 few))
        ∙ co_text_read

    back_at : (f : Numbers → ℤ) (old l : List ℤ) (i : ℕ) → i < n → f (node_numbers x y (i + 1)) ≡ get_or l i (pos 0)
        → get_or (map f (listed (node_numbers x y) n) ++ drop (length (listed (node_numbers x y) n)) old) i (pos 0) ≡ get_or l i (pos 0)
    back_at f old l i h e =
        front f (listed (node_numbers x y) n) (drop (length (listed (node_numbers x y) n)) old) i (pos 0) (omega (arith, listed_long (node_numbers x y) n))
        ∙ (ap f (listed_at (node_numbers x y) n i none h) ∙ e)

    -- whoever reads the text that was written gets each coordinate, whatever rows are lent
    pub read_written_co : (r : Judged) (a' b' : List ℤ) → CoPromise (co_text n x y) n a b r a' b'
        → (r ≡ (Ok tt)) × ((i : ℕ) → i < n → (get_or a' i (pos 0) ≡ get_or x i (pos 0)) × (get_or b' i (pos 0) ≡ get_or y i (pos 0)))
    unfolding co_says row
    read_written_co r a' b' p =
        let reply = p.reply ∙ ap co_says co_back in
        let ta = p.x_left ∙ ap (λ (o : Outcome). row (λ (ns : Numbers). ns.x) o a) co_back in
        let tb = p.y_left ∙ ap (λ (o : Outcome). row (λ (ns : Numbers). ns.y) o b) co_back in
        let one : (i : ℕ) → i + 1 - 1 ≡ i = λ i. omega arith in (
          co_reply_injective r (Ok tt) reply,
          λ i h. (
            rw ta (back_at (λ (ns : Numbers). ns.x) a x i h (ap (λ (k : ℕ). get_or x k (pos 0)) (one i))),
            rw tb (back_at (λ (ns : Numbers). ns.y) b y i h (ap (λ (k : ℕ). get_or y k (pos 0)) (one i))),
          ),
        )

-- ---- nodes in ascending order

abbrev node_of : Numbers → ℕ
node_of ns = ns.first

nodes_of_lem : (ls : List (List ℕ)) (nss : List Numbers) → map co_line ls ≡ map data_of nss → nodes_of ls ≡ map node_of nss
unfolding nodes_of
nodes_of_lem [] [] e = refl
nodes_of_lem [] (ns ∷ nss) e = cc
nodes_of_lem (l ∷ ls) [] e = cc
nodes_of_lem (l ∷ ls) (ns ∷ nss) e =
    let a : co_line l ≡ data_of ns = cc in
    let b : map co_line ls ≡ map data_of nss = cc in
    rw (a, nodes_of_lem ls nss b)

nodes_after : (l : List ℕ) (p : Numbers) (ls : List (List ℕ)) → co_line l ≡ Ok (Problem p) → nodes_of (l ∷ ls) ≡ nodes_of ls
unfolding nodes_of
nodes_after l p ls e = rw e

map_at : (nss : List Numbers) (i : ℕ) → get_or (map node_of nss) i 0 ≡ node_of (get_or nss i none)
map_at [] i = refl
map_at (ns ∷ nss) zero = refl
map_at (ns ∷ nss) (suc i) = map_at nss i

map_long : (nss : List Numbers) → length (map node_of nss) ≡ length nss
map_long [] = refl
map_long (ns ∷ nss) = ap suc (map_long nss)

module _ (ids : List ℕ) (up : Ascending ids) (n : ℕ) (long : length ids ≡ n) (low : (i : ℕ) → i < n → 1 ≤ get_or ids i 0) (high : (i : ℕ) → i < n → get_or ids i 0 ≤ n) where
  rise : (i : ℕ) → suc i < n → get_or ids i 0 < get_or ids (suc i) 0
  rise i h = rw (add-one i) at (up.rises i (omega arith))

  least : (i : ℕ) → i < n → suc i ≤ get_or ids i 0
  least zero h = low 0 h
  least (suc i) h = let a = least i (omega arith) in let b = rise i h in omega arith

  most : (k i : ℕ) → i + k + 1 ≡ n → get_or ids i 0 + k ≤ n
  most zero i e = let a = high i (omega arith) in omega arith
  most (suc k) i e = let a = most k (suc i) (omega arith) in let b = rise i (omega arith) in omega arith

  all_nodes : (i : ℕ) → i < n → get_or ids i 0 ≡ i + 1
  all_nodes i h = let a = least i h in let b = most (n - 1 - i) i (omega arith) in omega arith

-- ---- (ii) writing what was read

pub co_plain : (n : ℕ) (x y : List ℤ) → PlainCo (co_text n x y)
unfolding co_text
co_plain n x y = record {
  uncommented = record { line = λ i h. rw (co_lines n x y) (by_place i (rw (co_lines n x y) at h)) };
  ends = last_closed (line_text co_problem (decimal n ∷ [])) (listed (node_text x y) n);
  nodes = rw (co_lines n x y, nodes_after (line_text co_problem (decimal n ∷ [])) (naturals n 0 0) (listed (node_text x y) n) (co_written n), ids) (record { rises = λ i h. rises i h });
}
  where
    by_place : (i : ℕ) → i < suc (length (listed (node_text x y) n)) → is_comment (get_or (line_text co_problem (decimal n ∷ []) ∷ listed (node_text x y) n) i []) ≡ false
    by_place zero h = rw (co_spelt (decimal n)) (uncommented 112 (97 ∷ 117 ∷ 120 ∷ []) ((115 ∷ 112 ∷ []) ∷ (99 ∷ 111 ∷ []) ∷ decimal n ∷ []) (λ e. omega arith) refl)
    by_place (suc i) h =
        let v = i + 1 in
        rw (listed_at (node_text x y) n i [] (omega (arith, listed_long (node_text x y) n)), node_spelt (decimal v) (whole (coordinate x v)) (whole (coordinate y v)))
        (uncommented 118 (decimal v) (whole (coordinate x v) ∷ whole (coordinate y v) ∷ []) (λ e. omega arith) refl)

    ids : nodes_of (listed (node_text x y) n) ≡ listed (λ (v : ℕ). v) n
    ids =
        let same = map-listed co_line (node_text x y) (λ (v : ℕ). data_of (node_numbers x y v)) (λ v. node_written v (coordinate x v) (coordinate y v)) n in
        let also = map-listed data_of (node_numbers x y) (λ (v : ℕ). data_of (node_numbers x y v)) (λ v. refl) n in
        nodes_of_lem (listed (node_text x y) n) (listed (node_numbers x y) n) (same ∙ sym also) ∙ map-listed node_of (node_numbers x y) (λ (v : ℕ). v) (λ v. refl) n

    rises : (i : ℕ) → i + 1 < length (listed (λ (v : ℕ). v) n) → get_or (listed (λ (v : ℕ). v) n) i 0 < get_or (listed (λ (v : ℕ). v) n) (i + 1) 0
    rises i h =
        let l = listed_long (λ (v : ℕ). v) n in
        rw (listed_at (λ (v : ℕ). v) n i 0 (omega arith), listed_at (λ (v : ℕ). v) n (i + 1) 0 (omega arith)) (omega arith)

abbrev line_of_node : Numbers → List ℕ
line_of_node ns = line_text co_node (decimal ns.first ∷ whole ns.x ∷ whole ns.y ∷ [])

-- a plain text is its lines, written
plain-co_text : (n : ℕ) → n ≤ 512 → (text : List ℕ) (p : Numbers) (lines : List Numbers) → read_text (Coordinates n) text ≡ read p lines → PlainCo text
    → closed (line_text co_problem (decimal n ∷ []) ∷ map line_of_node lines) ≡ text
unfolding co_rules
plain-co_text n few text p lines e t =
    let F = Coordinates n in
    let b = begun F text p lines e t.uncommented in
    let top : p.first ≡ n = (co_count n text p lines few e).0 in
    let long : length b.numbers ≡ n = b.count ∙ top in
    let names : nodes_of (lines_of text) ≡ map node_of b.numbers = ap nodes_of b.all_lines ∙ (nodes_after b.line p b.others b.on_problem_line ∙ nodes_of_lem b.others b.numbers b.data_lines) in
    let up : Ascending (map node_of b.numbers) = subst Ascending names t.nodes in
    let line : (i : ℕ) → i < n → Inside (co_rules n).entries (get_or b.numbers i none) = λ i h. inside (co_rules n).entries (get_or b.numbers i none) (b.inside i (omega arith)) in
    let ids = all_nodes (map node_of b.numbers) up n (map_long b.numbers ∙ long) (λ i h. rw (map_at b.numbers i) (line i h).low.first) (λ i h. rw (map_at b.numbers i) (line i h).high.first) in
    let same = in_order F text p lines b (omega arith)
    (λ i h. record { inside = b.inside i (omega (arith, b.count)); node = λ o. sym (map_at b.numbers i) ∙ ids i (omega arith) }) in
    let first = co_read b.line p b.on_problem_line ∙ ap (λ (k : ℕ). line_text co_problem (decimal k ∷ [])) top in
    let others = lines_of_lem F line_of_node node_read b.others b.numbers b.data_lines in
    together text b.line b.others (line_text co_problem (decimal n ∷ [])) (map line_of_node lines) (closed_lines text t.ends) b.all_lines first
    (others ∙ ap (λ (l : List Numbers). map line_of_node l) (sym same))

-- the rows of a text that was read
co_rows : (n : ℕ) (lines : List Numbers) (a b : List ℤ) → length lines ≡ n → ((i : ℕ) → i < n → (get_or lines i none).first ≡ i + 1)
    → listed (node_text (map (λ (ns : Numbers). ns.x) lines ++ a) (map (λ (ns : Numbers). ns.y) lines ++ b)) n ≡ map line_of_node lines
co_rows n lines a b e h =
    rw (← e)
    (listed-map line_of_node lines none (node_text (map (λ (ns : Numbers). ns.x) lines ++ a) (map (λ (ns : Numbers). ns.y) lines ++ b)) (λ i k.
    let one : i + 1 - 1 ≡ i = omega arith in
    rw (one, front (λ (ns : Numbers). ns.x) lines a i (pos 0) k, front (λ (ns : Numbers). ns.y) lines b i (pos 0) k, h i (omega arith))))

-- what was read is written as it was, exactly where it was plain
pub write_read_co : (text : List ℕ) (n : ℕ) (a b a' b' : List ℤ) → CoPromise text n a b (Ok tt) a' b'
    → (co_text n a' b' ≡ text → PlainCo text) × (PlainCo text → co_text n a' b' ≡ text)
unfolding co_says row co_text
write_read_co text n a b a' b' q =
    (λ e. subst PlainCo e (co_plain n a' b'), λ t. by_outcome t (read_co text n a b) (co-accepted text n a b) (co_nodes text n a b) q.reply q.x_left q.y_left)
  where
    by_outcome : PlainCo text → (o : Outcome)
        → ((p : Numbers) (lines : List Numbers) → o ≡ read p lines → (1 ≤ n) × (n ≤ 512) × (read_text (Coordinates n) text ≡ read p lines))
        → ((p : Numbers) (lines : List Numbers) → o ≡ read p lines → (length lines ≡ n) × ((i : ℕ) → i < n → (get_or lines i none).first ≡ i + 1))
        → accepted [] ≡ co_says o
        → a' ≡ row (λ (ns : Numbers). ns.x) o a → b' ≡ row (λ (ns : Numbers). ns.y) o b → co_text n a' b' ≡ text
    by_outcome t (read p lines) from nodes d ta tb =
        let f = from p lines refl in
        let w = nodes p lines refl in
        rw (ta, tb, co_rows n lines (drop (length lines) a) (drop (length lines) b) w.0 w.1) (plain-co_text n f.1 text p lines f.2 t)
    by_outcome t (refused r) from nodes d ta tb = absurd (not_accepted r [] (sym d))
