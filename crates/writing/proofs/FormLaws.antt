-- The four forms: a line that was written is read with its numbers, and one that was read is written again.
use mathlib.Core.Path.{◌≡◌, refl, sym, ap, ◌∙◌}
use mathlib.Core.List.{List, [], ◌∷◌, ◌++◌}
use Prim.Native.Nat.{ℕ, ◌<◌}
use native.Mathlib.Omega.{arith}
use lib.IntN.{ℤ}
use Rattle.std.specs.Prelude.{Ok}
use Rattle.scan.specs.Ascii.{bytes}
use Rattle.scan.specs.Pieces.{opening, pieces, fields_of, first_at}
use Rattle.scan.specs.Decimal.{decimal, whole}
use Rattle.scan.specs.Written.{filled, spread, joined, line_text}
use Rattle.scan.specs.Fields.{before, taken, on_field, matched}
use Rattle.scan.specs.declared.holding.Numbers.{Numbers}
use Rattle.scan.specs.declared.holding.Value.TheVariants.{Unsigned, Signed}
use Rattle.scan.specs.declared.line.Line.TheVariants.{Problem, Data}
use Rattle.scan.proofs.DecimalLaws.{natural_written, integer_written}
use Rattle.scan.proofs.WrittenLaws.{Clear, empty, more, joined_fields}
use Rattle.scan.proofs.FormLaws.{decimal_without, whole_without, word_2, word_3, data_written, problem_written, word_step, natural_step, integer_step, end_step, then_more, line_data, line_problem}
use Rattle.dimacs.specs.Rules.{naturals, located}
use Rattle.dimacs.specs.Gr.{gr_problem, gr_arc, gr_line}
use Rattle.dimacs.specs.Co.{co_problem, co_node, co_line}

-- ---- the fields of the lines that are written

-- fields after the first of a line, without a byte
module _ (sep : ℕ) (h : sep < 45) where
  pub arc_clear : (u v w : ℕ) → Clear sep (decimal u ∷ decimal v ∷ decimal w ∷ [])
  arc_clear u v w = more (decimal_without sep u (omega arith)) (more (decimal_without sep v (omega arith)) (more (decimal_without sep w (omega arith)) empty))

  pub node_clear : (v : ℕ) (x y : ℤ) → Clear sep (decimal v ∷ whole x ∷ whole y ∷ [])
  node_clear v x y = more (decimal_without sep v (omega arith)) (more (whole_without sep x h) (more (whole_without sep y h) empty))

  pub gr_clear : (n m : ℕ) → Clear sep ((115 ∷ 112 ∷ []) ∷ decimal n ∷ decimal m ∷ [])
  gr_clear n m = more (word_2 sep 115 112 (λ e. omega arith) (λ e. omega arith)) (more (decimal_without sep n (omega arith)) (more (decimal_without sep m (omega arith)) empty))

  pub co_clear : (n : ℕ) → Clear sep ((97 ∷ 117 ∷ 120 ∷ []) ∷ (115 ∷ 112 ∷ []) ∷ (99 ∷ 111 ∷ []) ∷ decimal n ∷ [])
  co_clear n =
      more (word_3 sep 97 117 120 (λ e. omega arith) (λ e. omega arith) (λ e. omega arith))
      (more (word_2 sep 115 112 (λ e. omega arith) (λ e. omega arith))
      (more (word_2 sep 99 111 (λ e. omega arith) (λ e. omega arith)) (more (decimal_without sep n (omega arith)) empty)))

-- each line, spelt out
pub arc_spelt : (u v w : List ℕ) → line_text gr_arc (u ∷ v ∷ w ∷ []) ≡ (97 ∷ []) ++ spread (u ∷ v ∷ w ∷ [])
unfolding line_text filled joined bytes pieces opening
arc_spelt u v w = refl

pub gr_spelt : (n m : List ℕ) → line_text gr_problem (n ∷ m ∷ []) ≡ (112 ∷ []) ++ spread ((115 ∷ 112 ∷ []) ∷ n ∷ m ∷ [])
unfolding line_text filled joined bytes pieces opening
gr_spelt n m = refl

pub co_spelt : (n : List ℕ) → line_text co_problem (n ∷ []) ≡ (112 ∷ []) ++ spread ((97 ∷ 117 ∷ 120 ∷ []) ∷ (115 ∷ 112 ∷ []) ∷ (99 ∷ 111 ∷ []) ∷ n ∷ [])
unfolding line_text filled joined bytes pieces opening
co_spelt n = refl

pub node_spelt : (v x y : List ℕ) → line_text co_node (v ∷ x ∷ y ∷ []) ≡ (118 ∷ []) ++ spread (v ∷ x ∷ y ∷ [])
unfolding line_text filled joined bytes pieces opening
node_spelt v x y = refl

-- ---- a line that is written is read

pub arc_written : (u v w : ℕ) → gr_line (line_text gr_arc (decimal u ∷ decimal v ∷ decimal w ∷ [])) ≡ Ok (Data (naturals u v w))
unfolding gr_line bytes pieces opening first_at matched on_field before taken
arc_written u v w =
    rw (arc_spelt (decimal u) (decimal v) (decimal w))
    (data_written gr_problem gr_arc 97 (decimal u) (decimal v ∷ decimal w ∷ []) (λ e. omega arith) (arc_clear 32 (omega arith) u v w) (naturals u v w) refl refl
    (rw (natural_written u, natural_written v, natural_written w)))

pub gr_written : (n m : ℕ) → gr_line (line_text gr_problem (decimal n ∷ decimal m ∷ [])) ≡ Ok (Problem (naturals n m 0))
unfolding gr_line bytes pieces opening first_at matched on_field before taken
gr_written n m =
    rw (gr_spelt (decimal n) (decimal m))
    (problem_written gr_problem gr_arc 112 (115 ∷ 112 ∷ []) (decimal n ∷ decimal m ∷ []) (λ e. omega arith) (gr_clear 32 (omega arith) n m) (naturals n m 0) refl refl refl
    (rw (natural_written n, natural_written m)))

pub co_written : (n : ℕ) → co_line (line_text co_problem (decimal n ∷ [])) ≡ Ok (Problem (naturals n 0 0))
unfolding co_line bytes pieces opening first_at matched on_field before taken
co_written n =
    rw (co_spelt (decimal n))
    (problem_written co_problem co_node 112 (97 ∷ 117 ∷ 120 ∷ []) ((115 ∷ 112 ∷ []) ∷ (99 ∷ 111 ∷ []) ∷ decimal n ∷ []) (λ e. omega arith) (co_clear 32 (omega arith) n) (naturals n 0 0) refl refl refl
    (rw (natural_written n)))

pub node_written : (v : ℕ) (x y : ℤ) → co_line (line_text co_node (decimal v ∷ whole x ∷ whole y ∷ [])) ≡ Ok (Data (located v x y))
unfolding co_line bytes pieces opening first_at matched on_field before taken
node_written v x y =
    rw (node_spelt (decimal v) (whole x) (whole y))
    (data_written co_problem co_node 118 (decimal v) (whole x ∷ whole y ∷ []) (λ e. omega arith) (node_clear 32 (omega arith) v x y) (located v x y) refl refl
    (rw (natural_written v, integer_written x, integer_written y)))

-- ---- a line that was read is written

arc_matched : (fs : List (List ℕ)) (ns : Numbers) → matched (fields_of gr_arc) 1 fs ≡ Ok ns
    → (fs ≡ (97 ∷ []) ∷ decimal ns.first ∷ decimal ns.second ∷ decimal ns.third ∷ [])
unfolding bytes pieces opening before
arc_matched fs ns e =
    let a = word_step (97 ∷ []) ((85 ∷ []) ∷ (86 ∷ []) ∷ (87 ∷ []) ∷ []) 1 ns fs refl e in
    let b = natural_step (85 ∷ []) ((86 ∷ []) ∷ (87 ∷ []) ∷ []) a.0 ns a.1 refl refl a.3 in
    let c = natural_step (86 ∷ []) ((87 ∷ []) ∷ []) b.0 b.3 b.2 refl refl b.5 in
    let d = natural_step (87 ∷ []) [] c.0 c.3 c.2 refl refl c.5 in
    let z = end_step d.0 d.2 d.3 d.5 in
    let whole : naturals b.1 c.1 d.1 ≡ ns = ap (λ (m : Numbers). before (Unsigned b.1) (before (Unsigned c.1) (before (Unsigned d.1) m))) z.1
    ∙ (ap (λ (m : Numbers). before (Unsigned b.1) (before (Unsigned c.1) m)) d.6 ∙ (ap (λ (m : Numbers). before (Unsigned b.1) m) c.6 ∙ b.6)) in
    then_more _ a.2 (then_more _ b.4 (then_more _ c.4 (then_more _ d.4 z.0)))
    ∙ ap (λ (m : Numbers). (97 ∷ []) ∷ decimal m.first ∷ decimal m.second ∷ decimal m.third ∷ []) whole

gr_matched : (fs : List (List ℕ)) (ns : Numbers) → matched (fields_of gr_problem) 1 fs ≡ Ok ns
    → (fs ≡ (112 ∷ []) ∷ (115 ∷ 112 ∷ []) ∷ decimal ns.first ∷ decimal ns.second ∷ [])
unfolding bytes pieces opening before
gr_matched fs ns e =
    let a = word_step (112 ∷ []) ((115 ∷ 112 ∷ []) ∷ (78 ∷ []) ∷ (77 ∷ []) ∷ []) 1 ns fs refl e in
    let b = word_step (115 ∷ 112 ∷ []) ((78 ∷ []) ∷ (77 ∷ []) ∷ []) a.0 ns a.1 refl a.3 in
    let c = natural_step (78 ∷ []) ((77 ∷ []) ∷ []) b.0 ns b.1 refl refl b.3 in
    let d = natural_step (77 ∷ []) [] c.0 c.3 c.2 refl refl c.5 in
    let z = end_step d.0 d.2 d.3 d.5 in
    let whole : naturals c.1 d.1 0 ≡ ns = ap (λ (m : Numbers). before (Unsigned c.1) (before (Unsigned d.1) m)) z.1
    ∙ (ap (λ (m : Numbers). before (Unsigned c.1) m) d.6 ∙ c.6) in
    then_more _ a.2 (then_more _ b.2 (then_more _ c.4 (then_more _ d.4 z.0)))
    ∙ ap (λ (m : Numbers). (112 ∷ []) ∷ (115 ∷ 112 ∷ []) ∷ decimal m.first ∷ decimal m.second ∷ []) whole

co_matched : (fs : List (List ℕ)) (ns : Numbers) → matched (fields_of co_problem) 1 fs ≡ Ok ns
    → (fs ≡ (112 ∷ []) ∷ (97 ∷ 117 ∷ 120 ∷ []) ∷ (115 ∷ 112 ∷ []) ∷ (99 ∷ 111 ∷ []) ∷ decimal ns.first ∷ [])
unfolding bytes pieces opening before
co_matched fs ns e =
    let a = word_step (112 ∷ []) ((97 ∷ 117 ∷ 120 ∷ []) ∷ (115 ∷ 112 ∷ []) ∷ (99 ∷ 111 ∷ []) ∷ (78 ∷ []) ∷ []) 1 ns fs refl e in
    let b = word_step (97 ∷ 117 ∷ 120 ∷ []) ((115 ∷ 112 ∷ []) ∷ (99 ∷ 111 ∷ []) ∷ (78 ∷ []) ∷ []) a.0 ns a.1 refl a.3 in
    let c = word_step (115 ∷ 112 ∷ []) ((99 ∷ 111 ∷ []) ∷ (78 ∷ []) ∷ []) b.0 ns b.1 refl b.3 in
    let d = word_step (99 ∷ 111 ∷ []) ((78 ∷ []) ∷ []) c.0 ns c.1 refl c.3 in
    let f = natural_step (78 ∷ []) [] d.0 ns d.1 refl refl d.3 in
    let z = end_step f.0 f.2 f.3 f.5 in
    let whole : naturals f.1 0 0 ≡ ns = ap (λ (m : Numbers). before (Unsigned f.1) m) z.1 ∙ f.6 in
    then_more _ a.2 (then_more _ b.2 (then_more _ c.2 (then_more _ d.2 (then_more _ f.4 z.0))))
    ∙ ap (λ (m : Numbers). (112 ∷ []) ∷ (97 ∷ 117 ∷ 120 ∷ []) ∷ (115 ∷ 112 ∷ []) ∷ (99 ∷ 111 ∷ []) ∷ decimal m.first ∷ []) whole

node_matched : (fs : List (List ℕ)) (ns : Numbers) → matched (fields_of co_node) 1 fs ≡ Ok ns
    → (fs ≡ (118 ∷ []) ∷ decimal ns.first ∷ whole ns.x ∷ whole ns.y ∷ [])
unfolding bytes pieces opening before
node_matched fs ns e =
    let a = word_step (118 ∷ []) ((73 ∷ 68 ∷ []) ∷ (88 ∷ []) ∷ (89 ∷ []) ∷ []) 1 ns fs refl e in
    let b = natural_step (73 ∷ 68 ∷ []) ((88 ∷ []) ∷ (89 ∷ []) ∷ []) a.0 ns a.1 refl refl a.3 in
    let c = integer_step (88 ∷ []) ((89 ∷ []) ∷ []) b.0 b.3 b.2 refl refl b.5 in
    let d = integer_step (89 ∷ []) [] c.0 c.3 c.2 refl refl c.5 in
    let z = end_step d.0 d.2 d.3 d.5 in
    let all : located b.1 c.1 d.1 ≡ ns = ap (λ (m : Numbers). before (Unsigned b.1) (before (Signed c.1) (before (Signed d.1) m))) z.1
    ∙ (ap (λ (m : Numbers). before (Unsigned b.1) (before (Signed c.1) m)) d.6 ∙ (ap (λ (m : Numbers). before (Unsigned b.1) m) c.6 ∙ b.6)) in
    then_more _ a.2 (then_more _ b.4 (then_more _ c.4 (then_more _ d.4 z.0)))
    ∙ ap (λ (m : Numbers). (118 ∷ []) ∷ decimal m.first ∷ whole m.x ∷ whole m.y ∷ []) all

pub arc_read : (s : List ℕ) (ns : Numbers) → gr_line s ≡ Ok (Data ns) → s ≡ line_text gr_arc (decimal ns.first ∷ decimal ns.second ∷ decimal ns.third ∷ [])
unfolding gr_line joined
arc_read s ns e =
    let m = arc_matched (fields_of s) ns (line_data gr_problem gr_arc s ns e) in
    sym (joined_fields s) ∙ (ap joined m ∙ sym (arc_spelt (decimal ns.first) (decimal ns.second) (decimal ns.third)))

pub gr_read : (s : List ℕ) (ns : Numbers) → gr_line s ≡ Ok (Problem ns) → s ≡ line_text gr_problem (decimal ns.first ∷ decimal ns.second ∷ [])
unfolding gr_line joined
gr_read s ns e =
    let m = gr_matched (fields_of s) ns (line_problem gr_problem gr_arc s ns e) in
    sym (joined_fields s) ∙ (ap joined m ∙ sym (gr_spelt (decimal ns.first) (decimal ns.second)))

pub co_read : (s : List ℕ) (ns : Numbers) → co_line s ≡ Ok (Problem ns) → s ≡ line_text co_problem (decimal ns.first ∷ [])
unfolding co_line joined
co_read s ns e =
    let m = co_matched (fields_of s) ns (line_problem co_problem co_node s ns e) in
    sym (joined_fields s) ∙ (ap joined m ∙ sym (co_spelt (decimal ns.first)))

pub node_read : (s : List ℕ) (ns : Numbers) → co_line s ≡ Ok (Data ns) → s ≡ line_text co_node (decimal ns.first ∷ whole ns.x ∷ whole ns.y ∷ [])
unfolding co_line joined
node_read s ns e =
    let m = node_matched (fields_of s) ns (line_data co_problem co_node s ns e) in
    sym (joined_fields s) ∙ (ap joined m ∙ sym (node_spelt (decimal ns.first) (whole ns.x) (whole ns.y)))
