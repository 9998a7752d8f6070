-- Reading what was written gives the same network; writing what was read gives the same text exactly when it was plain.
use Rattle.std.specs.Prelude.{Result, Ok}
use Rattle.rules.specs.declared.Refusal.{Refusal}
use Rattle.rules.specs.declared.Sizes.{Sizes}
use mathlib.Core.Path.{◌≡◌, refl, sym, ap, subst, ◌∙◌}
use mathlib.Core.List.{List, [], ◌∷◌, ◌++◌, map}
use mathlib.Core.Bool.{true, false}
use Prim.Native.Nat.{ℕ, zero, suc, ◌+◌, ◌-◌, ◌≤◌, ◌<◌}
use native.Mathlib.Omega.{arith}
use lib.ListN.{length, get_or, drop}
use borrow.Author.Tests.{le-leb}
use Rattle.rules.specs.Paper.{Reply, accepted}
use Rattle.scan.specs.Pieces.{lines_of}
use Rattle.scan.specs.Fields.{none}
use Rattle.scan.specs.Decimal.{decimal}
use Rattle.scan.specs.Written.{spread, line_text, closed, listed}
use Rattle.scan.specs.declared.holding.Numbers.{Numbers}
use Rattle.dimacs.specs.Rules.{column_of, naturals, within}
use Rattle.dimacs.specs.Gr.{gr_problem, gr_arc, gr_line, gr_rules}
use Rattle.dimacs.specs.Texts.{Outcome, read, refused, start, read_lines, read_text}
use Rattle.dimacs.specs.Rows.{row}
use Rattle.dimacs.specs.Reading.{read_gr, gr_says}
use Rattle.dimacs.specs.Promise.{GrPromise}
use Rattle.dimacs.specs.Accepted.{GrLimits}
use Rattle.dimacs.specs.declared.format.Format.TheVariants.{Graph}
use Rattle.dimacs.specs.declared.rows.Column.TheVariants.{First, Second, Third}
use Rattle.dimacs.proofs.Sound.{Entry}
use Rattle.dimacs.proofs.Counting.{clash}
use Rattle.dimacs.proofs.Accepted.{gr_count, not_accepted, front, gr_read as gr-accepted}
use Rattle.dimacs.proofs.Replies.{gr_text_lem}
use Rattle.dimacs.proofs.Unique.{gr_reply_injective}
use Rattle.walks.specs.Rows.{Rows, open_rows, at}
use Rattle.writing.specs.Text.{arc_text, gr_text}
use Rattle.scan.specs.Line.{is_comment}
use Rattle.writing.specs.Plain.{PlainGr}
use Rattle.scan.proofs.WrittenLaws.{Without, without_both, Clear, empty, more, lines_closed, without_spread, closed_lines, last_closed, listed_long, listed_at, listed-map, map-listed}
use Rattle.scan.proofs.FormLaws.{word_1, uncommented}
use Rattle.writing.proofs.FormLaws.{arc_clear, gr_clear, arc_spelt, gr_spelt, arc_written, gr_written, arc_read, gr_read}
use Rattle.writing.proofs.TextLaws.{data_of}
use Rattle.writing.proofs.BeginLaws.{open_line, read_all, begun, in_order, lines_of_lem}
use Rattle.writing.proofs.LengthLaws.{gr_most}

-- ---- the lines of a text that is written

pub line_clear : (b : ℕ) (f : List ℕ) (fs : List (List ℕ)) → (b ≡ 10 → ⊥) → Clear 10 (f ∷ fs) → Without 10 ((b ∷ []) ++ spread (f ∷ fs))
line_clear b f fs h c = without_both 10 (b ∷ []) (spread (f ∷ fs)) (word_1 10 b h) (without_spread 10 (f ∷ fs) (λ e. omega arith) c)

clear_both : (sep : ℕ) (a b : List (List ℕ)) → Clear sep a → Clear sep b → Clear sep (a ++ b)
clear_both sep [] b x y = y
clear_both sep (l ∷ a) b (more w x) y = more w (clear_both sep a b x y)

pub clear_listed : (sep : ℕ) (f : ℕ → List ℕ) → ((i : ℕ) → Without sep (f i)) → (m : ℕ) → Clear sep (listed f m)
unfolding listed
clear_listed sep f h zero = empty
clear_listed sep f h (suc m) = clear_both sep (listed f m) (f (suc m) ∷ []) (clear_listed sep f h m) (more (h (suc m)) empty)

arc_one : (R : Rows) (e : ℕ) → Without 10 (arc_text R e)
arc_one R e =
    let u = at R.tails e in let v = at R.heads e in let w = at R.weights e in
    rw (arc_spelt (decimal u) (decimal v) (decimal w)) (line_clear 97 (decimal u) (decimal v ∷ decimal w ∷ []) (λ e. omega arith) (arc_clear 10 (omega arith) u v w))

gr_lines : (n m : ℕ) (R : Rows) → lines_of (gr_text n m R) ≡ line_text gr_problem (decimal n ∷ decimal m ∷ []) ∷ listed (arc_text R) m
unfolding gr_text
gr_lines n m R =
    lines_closed (line_text gr_problem (decimal n ∷ decimal m ∷ []) ∷ listed (arc_text R) m)
    (more (rw (gr_spelt (decimal n) (decimal m)) (line_clear 112 (115 ∷ 112 ∷ []) (decimal n ∷ decimal m ∷ []) (λ e. omega arith) (gr_clear 10 (omega arith) n m)))
    (clear_listed 10 (arc_text R) (arc_one R) m))

-- ---- (i) reading what was written

-- the numbers of arc e
abbrev pub arc_numbers : Rows → ℕ → Numbers
arc_numbers R e = naturals (at R.tails e) (at R.heads e) (at R.weights e)

problem_within : (n m : ℕ) → 1 ≤ n → n ≤ 512 → m ≤ 2048 → within (gr_rules 0).problem (naturals n m 0) ≡ true
unfolding within gr_rules
problem_within n m a b c = rw (le-leb 1 n a, le-leb n 512 b, le-leb m 2048 c, le-leb 0 m (omega arith))

arc_within : (n u v w : ℕ) → 1 ≤ u → u ≤ n → 1 ≤ v → v ≤ n → w ≤ 1000000 → within (gr_rules n).entries (naturals u v w) ≡ true
unfolding within gr_rules
arc_within n u v w a b c d e = rw (le-leb 1 u a, le-leb u n b, le-leb 1 v c, le-leb v n d, le-leb w 1000000 e, le-leb 0 w (omega arith))

module _ (n m : ℕ) (tails heads weights : List ℕ) (g : GrLimits n m tails heads weights) where
  abbrev R : Rows
  R = open_rows tails heads weights

  arc_entry : (i : ℕ) → i < m → Entry (gr_rules n) i (arc_numbers R (i + 1))
  unfolding gr_rules
  arc_entry i h =
      let one : i + 1 - 1 ≡ i = omega arith in
      record {
        inside = rw one (arc_within n (get_or tails i 0) (get_or heads i 0) (get_or weights i 0) (g.tail_least i h) (g.tail_most i h) (g.head_least i h) (g.head_most i h) (g.weight i h));
        node = λ o. absurd (clash o);
      }

  -- the text is accepted, with n, m and the arcs
  pub gr_text_read : read_text Graph (gr_text n m R) ≡ read (naturals n m 0) (listed (arc_numbers R) m)
  unfolding read_text gr_rules
  gr_text_read =
      let first = line_text gr_problem (decimal n ∷ decimal m ∷ []) in
      let same = map-listed gr_line (arc_text R) (λ (e : ℕ). data_of (arc_numbers R e)) (λ e. arc_written (at tails e) (at heads e) (at weights e)) m in
      let also = map-listed data_of (arc_numbers R) (λ (e : ℕ). data_of (arc_numbers R e)) (λ e. refl) m in
      ap (λ (ls : List (List ℕ)). read_lines Graph ls 1 start) (gr_lines n m R)
      ∙ (open_line Graph (naturals n m 0) first (listed (arc_text R) m) (gr_written n m) (problem_within n m g.some_node g.nodes g.arcs) (omega arith) g.arcs
      ∙ read_all Graph (naturals n m 0) (listed (arc_text R) m) (listed (arc_numbers R) m) (same ∙ sym also) (listed_long (arc_numbers R) m) g.arcs
      (λ i h. let k : i < m = omega (arith, listed_long (arc_numbers R) m) in rw (listed_at (arc_numbers R) m i none k) (arc_entry i k)))

module _ (n m : ℕ) (tails heads weights : List ℕ) (g : GrLimits n m tails heads weights) (a b c d : List ℕ) (la : 2048 ≤ length a) (lb : 2048 ≤ length b) (lc : 2048 ≤ length c)
    (ld : 2048 ≤ length d) where
  abbrev back : List Numbers
  back = listed (arc_numbers (open_rows tails heads weights)) m

  gr_back : read_gr (gr_text n m (open_rows tails heads weights)) a b c d ≡ read (naturals n m 0) back
  gr_back =
      let most = gr_most n m tails heads weights g in
      gr_text_lem (gr_text n m (open_rows tails heads weights)) a b c d (omega arith) (rw (le-leb 2048 (length a) la, le-leb 2048 (length b) lb, le-leb 2048 (length c) lc, le-leb 2048 (length d) ld))
      ∙ gr_text_read n m tails heads weights g

  back_at : (f : Numbers → ℕ) (old l : List ℕ) (i : ℕ) → i < m → f (arc_numbers (open_rows tails heads weights) (i + 1)) ≡ get_or l i 0 → get_or (map f back ++ drop (length back) old) i 0 ≡ get_or l i 0
  back_at f old l i h e =
      front f back (drop (length back) old) i 0 (omega (arith, listed_long (arc_numbers (open_rows tails heads weights)) m))
      ∙ (ap f (listed_at (arc_numbers (open_rows tails heads weights)) m i none h) ∙ e)

  -- whoever reads the text that was written gets n, m and the same arcs, whatever rows are lent
  pub read_written_gr : (r : Result Sizes Refusal) (a' b' c' d' : List ℕ) → GrPromise (gr_text n m (open_rows tails heads weights)) a b c d r a' b' c' d'
      → (r ≡ (Ok (record { n = n; m = m }))) × ((i : ℕ) → i < m → (get_or a' i 0 ≡ get_or tails i 0) × (get_or b' i 0 ≡ get_or heads i 0) × (get_or c' i 0 ≡ get_or weights i 0))
  unfolding gr_says row
  read_written_gr r a' b' c' d' p =
      let reply = p.reply ∙ ap gr_says gr_back in
      let ta = p.tails_left ∙ ap (λ (o : Outcome). row (column_of First) o a) gr_back in
      let tb = p.heads_left ∙ ap (λ (o : Outcome). row (column_of Second) o b) gr_back in
      let tc = p.weights_left ∙ ap (λ (o : Outcome). row (column_of Third) o c) gr_back in
      let one : (i : ℕ) → i + 1 - 1 ≡ i = λ i. omega arith in (
        gr_reply_injective r (Ok (record { n = n; m = m })) reply,
        λ i h. (
          rw ta (back_at (column_of First) a tails i h (ap (λ (k : ℕ). get_or tails k 0) (one i))),
          rw tb (back_at (column_of Second) b heads i h (ap (λ (k : ℕ). get_or heads k 0) (one i))),
          rw tc (back_at (column_of Third) c weights i h (ap (λ (k : ℕ). get_or weights k 0) (one i))),
        ),
      )

-- ---- (ii) writing what was read

pub gr_plain : (n m : ℕ) (R : Rows) → PlainGr (gr_text n m R)
unfolding gr_text
gr_plain n m R = record {
  uncommented = record { line = λ i h. rw (gr_lines n m R) (by_place i (rw (gr_lines n m R) at h)) };
  ends = last_closed (line_text gr_problem (decimal n ∷ decimal m ∷ [])) (listed (arc_text R) m);
}
  where
    by_place : (i : ℕ) → i < suc (length (listed (arc_text R) m)) → is_comment (get_or (line_text gr_problem (decimal n ∷ decimal m ∷ []) ∷ listed (arc_text R) m) i []) ≡ false
    by_place zero h = rw (gr_spelt (decimal n) (decimal m)) (uncommented 112 (115 ∷ 112 ∷ []) (decimal n ∷ decimal m ∷ []) (λ e. omega arith) refl)
    by_place (suc i) h =
        let e = i + 1 in
        rw (listed_at (arc_text R) m i [] (omega (arith, listed_long (arc_text R) m)), arc_spelt (decimal (at R.tails e)) (decimal (at R.heads e)) (decimal (at R.weights e)))
        (uncommented 97 (decimal (at R.tails e)) (decimal (at R.heads e) ∷ decimal (at R.weights e) ∷ []) (λ e. omega arith) refl)

-- the line of an arc by its numbers
abbrev arc_of : Numbers → List ℕ
arc_of ns = line_text gr_arc (decimal ns.first ∷ decimal ns.second ∷ decimal ns.third ∷ [])

pub together : (text l : List ℕ) (ls : List (List ℕ)) (first : List ℕ) (others : List (List ℕ)) → closed (lines_of text) ≡ text → lines_of text ≡ l ∷ ls → l ≡ first → ls ≡ others
    → closed (first ∷ others) ≡ text
together text l ls first others c e f g = rw (← f, ← g, ← e) c

-- a plain text is its lines, written
plain-gr_text : (text : List ℕ) (p : Numbers) (lines : List Numbers) → read_text Graph text ≡ read p lines → PlainGr text
    → (length lines ≡ p.second) × (closed (line_text gr_problem (decimal p.first ∷ decimal p.second ∷ []) ∷ map arc_of lines) ≡ text)
unfolding gr_rules
plain-gr_text text p lines e t =
    let b = begun Graph text p lines e t.uncommented in
    let top = (gr_count text p lines e).0 in
    let same = in_order Graph text p lines b top (λ i h. record { inside = b.inside i (omega (arith, b.count)); node = λ o. absurd (clash o) }) in
    let first = gr_read b.line p b.on_problem_line in
    let others = lines_of_lem Graph arc_of arc_read b.others b.numbers b.data_lines in (
      ap (λ (l : List Numbers). length l) same ∙ b.count,
      together text b.line b.others (line_text gr_problem (decimal p.first ∷ decimal p.second ∷ [])) (map arc_of lines) (closed_lines text t.ends) b.all_lines first
          (others ∙ ap (λ (l : List Numbers). map arc_of l) (sym same)),
    )

-- the rows of a text that was read
gr_rows : (p : Numbers) (lines : List Numbers) (a b c : List ℕ) → length lines ≡ p.second
    → listed (arc_text (open_rows (map (column_of First) lines ++ a) (map (column_of Second) lines ++ b) (map (column_of Third) lines ++ c))) p.second ≡ map arc_of lines
gr_rows p lines a b c n =
    let R = open_rows (map (column_of First) lines ++ a) (map (column_of Second) lines ++ b) (map (column_of Third) lines ++ c) in
    rw (← n)
    (listed-map arc_of lines none (arc_text R) (λ i h.
    let one : i + 1 - 1 ≡ i = omega arith in
    rw (one, front (column_of First) lines a i 0 h, front (column_of Second) lines b i 0 h, front (column_of Third) lines c i 0 h)))

-- what was read is written as it was, exactly where it was plain
pub write_read_gr : (text a b c d : List ℕ) (n m : ℕ) (a' b' c' d' : List ℕ) → GrPromise text a b c d (Ok (record { n = n; m = m })) a' b' c' d'
    → (gr_text n m (open_rows a' b' c') ≡ text → PlainGr text) × (PlainGr text → gr_text n m (open_rows a' b' c') ≡ text)
unfolding gr_says row gr_text
write_read_gr text a b c d n m a' b' c' d' q =
    (λ e. subst PlainGr e (gr_plain n m (open_rows a' b' c')), λ t. by_outcome t (read_gr text a b c d) (gr-accepted text a b c d) q.reply q.tails_left q.heads_left q.weights_left)
  where
    by_outcome : PlainGr text → (o : Outcome) → ((p : Numbers) (lines : List Numbers) → o ≡ read p lines → read_text Graph text ≡ read p lines) → accepted (n ∷ m ∷ []) ≡ gr_says o
        → a' ≡ row (column_of First) o a → b' ≡ row (column_of Second) o b → c' ≡ row (column_of Third) o c → gr_text n m (open_rows a' b' c') ≡ text
    by_outcome t (read p lines) from e ta tb tc =
        let en : n ≡ p.first = ap (λ (r : Reply). get_or r.values 0 0) e in
        let em : m ≡ p.second = ap (λ (r : Reply). get_or r.values 1 0) e in
        let w = plain-gr_text text p lines (from p lines refl) t in
        rw (ta, tb, tc, en, em, gr_rows p lines (drop (length lines) a) (drop (length lines) b) (drop (length lines) c) w.0) w.1
    by_outcome t (refused r) from e ta tb tc = absurd (not_accepted r (n ∷ m ∷ []) (sym e))
