-- How long the texts are.
use mathlib.Core.Path.{◌≡◌, refl, sym, ap, ◌∙◌}
use mathlib.Core.List.{List, [], ◌∷◌, ◌++◌, append_assoc}
use Prim.Native.Nat.{ℕ, zero, suc, ◌+◌, ◌-◌, ◌*◌, ◌≤◌, ◌<◌}
use native.Mathlib.Omega.{arith}
use native.Mathlib.Decide.{dec_le}
use lib.Dec.{leb→le}
use lib.IntN.{ℤ, pos, negsuc}
use lib.Signed.{◌≤ℤ◌}
use lib.ListN.{length, get_or, length-append}
use Rattle.rules.specs.Limits.{least_coordinate, most_coordinate}
use Rattle.scan.specs.Decimal.{decimal, whole}
use Rattle.scan.specs.Written.{spread, line_text, closed, listed}
use Rattle.dimacs.specs.Gr.{gr_problem, gr_arc}
use Rattle.dimacs.specs.Co.{co_problem, co_node}
use Rattle.dimacs.specs.Accepted.{GrLimits, CoLimits}
use Rattle.walks.specs.Rows.{open_rows}
use Rattle.writing.specs.Text.{arc_text, gr_text, node_text, co_text}
use Rattle.scan.proofs.DecimalLaws.{decimal_long}
use Rattle.writing.proofs.FormLaws.{arc_spelt, gr_spelt, co_spelt, node_spelt}

-- ---- lines after lines

pub closed_both : (a b : List (List ℕ)) → closed (a ++ b) ≡ closed a ++ closed b
unfolding closed
closed_both [] b = refl
closed_both (l ∷ a) b = ap (λ (t : List ℕ). l ++ 10 ∷ t) (closed_both a b) ∙ sym (append_assoc l (10 ∷ closed a) (closed b))

pub closed_long : (l : List ℕ) (ls : List (List ℕ)) → length (closed (l ∷ ls)) ≡ length l + 1 + length (closed ls)
unfolding closed
closed_long l ls = length-append l (10 ∷ closed ls) ∙ omega arith

pub closed_one : (l : List ℕ) → length (closed (l ∷ [])) ≡ length l + 1
unfolding closed
closed_one l = length-append l (10 ∷ []) ∙ omega arith

pub listed_step : (f : ℕ → List ℕ) (m : ℕ) → length (closed (listed f (suc m))) ≡ length (closed (listed f m)) + (length (f (suc m)) + 1)
unfolding listed
listed_step f m =
    let a = closed_both (listed f m) (f (suc m) ∷ []) in
    let b = length-append (closed (listed f m)) (closed (f (suc m) ∷ [])) in
    let c = closed_one (f (suc m)) in
    ap (λ (t : List ℕ). length t) a ∙ (b ∙ rw c)

-- ---- one line

spread_long : (f : List ℕ) (fs : List (List ℕ)) → length (spread (f ∷ fs)) ≡ 1 + (length f + length (spread fs))
unfolding spread
spread_long f fs = let a = length-append f (spread fs) in omega arith

spread_none : length (spread []) ≡ 0
unfolding spread
spread_none = refl

three_long : (b : ℕ) (u v w : List ℕ) → length ((b ∷ []) ++ spread (u ∷ v ∷ w ∷ [])) ≡ 4 + length u + length v + length w
three_long b u v w =
    let a = length-append (b ∷ []) (spread (u ∷ v ∷ w ∷ [])) in
    let c = spread_long u (v ∷ w ∷ []) in
    let d = spread_long v (w ∷ []) in
    let e = spread_long w [] in
    let f = spread_none in
    omega arith

pub arc_long : (u v w : List ℕ) → length (line_text gr_arc (u ∷ v ∷ w ∷ [])) ≡ 4 + length u + length v + length w
arc_long u v w = rw (arc_spelt u v w) (three_long 97 u v w)

pub node_long : (u v w : List ℕ) → length (line_text co_node (u ∷ v ∷ w ∷ [])) ≡ 4 + length u + length v + length w
node_long u v w = rw (node_spelt u v w) (three_long 118 u v w)

pub gr_long : (n m : List ℕ) → length (line_text gr_problem (n ∷ m ∷ [])) ≡ 6 + length n + length m
gr_long n m = rw (gr_spelt n m) (three_long 112 (115 ∷ 112 ∷ []) n m ∙ omega arith)

pub co_long : (n : List ℕ) → length (line_text co_problem (n ∷ [])) ≡ 12 + length n
unfolding spread
co_long n = rw (co_spelt n) (let a = spread_long n [] in let b = spread_none in omega arith)

-- ---- a coordinate

pub whole_long : (z : ℤ) → least_coordinate ≤ℤ z → z ≤ℤ most_coordinate → length (whole z) ≤ 8
unfolding whole
whole_long (pos n) low high = let h : n ≤ 1000000 = leb→le n 1000000 high.le in let a = decimal_long 6 n (omega arith) in omega arith
whole_long (negsuc n) low high = let h : n ≤ 999999 = leb→le n 999999 low.le in let a = decimal_long 6 (suc n) (omega arith) in omega arith

-- ---- the graph

module _ (n m : ℕ) (tails heads weights : List ℕ) (g : GrLimits n m tails heads weights) where
  arc_most : (e : ℕ) → e < m → length (arc_text (open_rows tails heads weights) (suc e)) ≤ 17
  arc_most e h =
      let one : suc e - 1 ≡ e = omega arith in
      let a = decimal_long 2 (get_or tails e 0) (omega (arith, g.tail_most e h, g.nodes)) in
      let b = decimal_long 2 (get_or heads e 0) (omega (arith, g.head_most e h, g.nodes)) in
      let c = decimal_long 6 (get_or weights e 0) (omega (arith, g.weight e h)) in
      rw (one, arc_long (decimal (get_or tails e 0)) (decimal (get_or heads e 0)) (decimal (get_or weights e 0))) (omega arith)

  arcs_most : (k : ℕ) → k ≤ m → length (closed (listed (arc_text (open_rows tails heads weights)) k)) ≤ 18 * k
  unfolding listed closed
  arcs_most zero h = omega arith
  arcs_most (suc k) h =
      let ih = arcs_most k (omega arith) in
      let a = arc_most k h in
      let b = listed_step (arc_text (open_rows tails heads weights)) k in
      omega arith

  -- at most 36,878 bytes
  pub gr_most : length (gr_text n m (open_rows tails heads weights)) ≤ 36878
  unfolding gr_text
  gr_most =
      let a = closed_long (line_text gr_problem (decimal n ∷ decimal m ∷ [])) (listed (arc_text (open_rows tails heads weights)) m) in
      let b = gr_long (decimal n) (decimal m) in
      let c = arcs_most m (omega arith) in
      let d = decimal_long 2 n (omega (arith, g.nodes)) in
      let e = decimal_long 3 m (omega (arith, g.arcs)) in
      omega (arith, g.arcs)

-- ---- the coordinates

-- of the numbers 1..v, all have a digit, all but 9 a second, all but 99 a third
digits_more : (v : ℕ) → suc v < 1000 → length (decimal (suc v)) + (v + (v - 9) + (v - 99)) ≤ suc v + (suc v - 9) + (suc v - 99)
digits_more v h = elim (dec_le 100 (suc v)) [
  | yes p ↦ let a = decimal_long 2 (suc v) h in omega arith
  | no p ↦ elim (dec_le 10 (suc v)) [
    | yes q ↦ let a = decimal_long 1 (suc v) (omega (arith, p)) in omega (arith, p)
    | no q ↦ let a = decimal_long 0 (suc v) (omega (arith, q)) in omega (arith, q)
  ]
]

module _ (n : ℕ) (few : n ≤ 512) (x y : List ℤ) (g : CoLimits n x y) where
  node_most : (v : ℕ) → v < n → length (node_text x y (suc v)) ≤ 20 + length (decimal (suc v))
  node_most v h =
      let one : suc v - 1 ≡ v = omega arith in
      let a = whole_long (get_or x v (pos 0)) (g.x_least v h) (g.x_most v h) in
      let b = whole_long (get_or y v (pos 0)) (g.y_least v h) (g.y_most v h) in
      rw (one, node_long (decimal (suc v)) (whole (get_or x v (pos 0))) (whole (get_or y v (pos 0)))) (omega arith)

  nodes_most : (k : ℕ) → k ≤ n → length (closed (listed (node_text x y) k)) ≤ 21 * k + (k + (k - 9) + (k - 99))
  unfolding listed closed
  nodes_most zero h = omega arith
  nodes_most (suc k) h =
      let ih = nodes_most k (omega arith) in
      let a = node_most k h in
      let b = listed_step (node_text x y) k in
      let c = digits_more k (omega arith) in
      omega arith

  -- at most 12,196 bytes
  pub co_most : length (co_text n x y) ≤ 12196
  unfolding co_text
  co_most =
      let a = closed_long (line_text co_problem (decimal n ∷ [])) (listed (node_text x y) n) in
      let b = co_long (decimal n) in
      let c = nodes_most n (omega arith) in
      let d = decimal_long 2 n (omega arith) in
      omega arith
