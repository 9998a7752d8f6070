-- From a text that was read, and rows that were judged, to what a day's list says.
use Prim.Native.Nat.{ℕ, ◌≤◌}
use mathlib.Core.Path.{◌≡◌, refl, sym, ap, ◌∙◌}
use mathlib.Core.Bool.{true}
use mathlib.Core.List.{List, [], ◌∷◌}
use native.Mathlib.Omega.{arith}
use lib.IntN.{ℤ}
use lib.ListN.{length, get_or, drop}
use lib.Seq.{take_all}
use Rattle.rules.specs.Paper.{Reply}
use Rattle.rules.proofs.PaperLaws.{refusal_injective}
use Rattle.std.specs.Prelude.{Ok, Err}
use Rattle.rules.specs.Judging.{Judged, fine}
use Rattle.rules.specs.declared.Refusal.{Refusal}
use Rattle.scan.specs.declared.holding.Numbers.{Numbers}
use Rattle.dimacs.specs.Rules.{column_of}
use Rattle.dimacs.specs.Texts.{Outcome, read, refused}
use Rattle.dimacs.specs.Rows.{row}
use Rattle.dimacs.specs.Reading.{p2p_reply, read_p2p, p2p_says}
use Rattle.dimacs.specs.Accepted.{P2pLimits}
use Rattle.dimacs.specs.Promise.{P2pPromise}
use Rattle.dimacs.specs.declared.rows.Column.TheVariants.{First, Second}
use Rattle.dimacs.proofs.Accepted.{not_accepted, front, p2p_count, p2p_read, read_p2p_limits}
use Rattle.walks.specs.Rows.{Rows}
use Rattle.passing.specs.Signs.{signs, boxes_alone, box_signs}
use Rattle.judging.specs.Order.{network_judged, placed_by, shaped_by, check_judged, day_judged}
use Rattle.judging.proofs.FineLaws.{check_fine}
use Rattle.daylist.specs.Paper.{paper}
use Rattle.daylist.specs.Says.{DaySays, answered}
use Rattle.daylist.specs.Steps.{Lent, InRows, AllAnswered}
use Rattle.daylist.specs.declared.Totals.{Totals}

-- ---- the rows

-- they are judged so whatever modules and masks there are
pub boxes_judged : (n m : ℕ) (R : Rows) (x y boxes : List ℤ) (modules masks : List ℕ)
    → shaped_by (network_judged n m R) n m boxes_alone (signs x y boxes modules masks) true ≡ day_judged boxes_alone n m R (box_signs x y boxes)
unfolding placed_by shaped_by day_judged
boxes_judged n m R x y boxes modules masks = refl

pub day_lent : (n m : ℕ) (R : Rows) (x y boxes : List ℤ) → day_judged boxes_alone n m R (box_signs x y boxes) ≡ fine → Lent n m R x y boxes
unfolding check_judged day_judged
day_lent n m R x y boxes e =
    let p = check_fine boxes_alone n m R (box_signs x y boxes) e in
    let places = p.lent.places refl in
    record { sound = p.lent.sound; x_long = places.x_long; y_long = places.y_long; shaped = p.shaped refl }

-- a list is judged as a check of its boxes is
pub as_checked : (n m : ℕ) (R : Rows) (x y boxes : List ℤ) {j : Judged} → j ≡ check_judged boxes_alone n m R (box_signs x y boxes) → day_judged boxes_alone n m R (box_signs x y boxes) ≡ j
unfolding check_judged day_judged
as_checked n m R x y boxes e = sym e

-- ---- the text

-- a text whose k queries stand in the rows
pub record Taken (text : List ℕ) (n : ℕ) (answers : List ℕ) (k : ℕ) (sources targets : List ℕ) : Type 0 where
  pub problem : Numbers
  pub queries : List Numbers
  pub is_read : read_p2p text n answers ≡ read problem queries
  pub long : length queries ≡ k
  pub in_rows : InRows queries sources targets

module _ (text : List ℕ) (n : ℕ) (answers a b a' b' : List ℕ) where
  taken_as : (k : ℕ) (o : Outcome) → read_p2p text n answers ≡ o → p2p_reply (Ok k) ≡ p2p_says o → a' ≡ row (column_of First) o a → b' ≡ row (column_of Second) o b
      → Taken text n answers k a' b'
  unfolding p2p_says row
  taken_as k (read p lines) e d f g =
      let t = p2p_read text n answers p lines e in
      let c = p2p_count n text p lines t.2 t.3 in
      let same : k ≡ p.first = ap (λ (r : Reply). get_or r.values 0 0) d in
      record {
        problem = p;
        queries = lines;
        is_read = e;
        long = c.1 ∙ sym same;
        in_rows = record {
          source = λ i h. ap (λ (l : List ℕ). get_or l i 0) f ∙ front (column_of First) lines (drop (length lines) a) i 0 h;
          target = λ i h. ap (λ (l : List ℕ). get_or l i 0) g ∙ front (column_of Second) lines (drop (length lines) b) i 0 h;
        };
      }
  taken_as k (refused x) e d f g = absurd (not_accepted x (k ∷ []) (sym d))

  refused_as : (x : Refusal) (o : Outcome) → p2p_reply (Err x) ≡ p2p_says o → o ≡ refused x
  unfolding p2p_says
  refused_as x (read p lines) d = absurd (not_accepted x (p.first ∷ []) d)
  refused_as x (refused z) d = ap refused (refusal_injective z x (sym d))

  pub text_taken : (k : ℕ) → P2pPromise text n answers a b (Ok k) a' b' → Taken text n answers k a' b'
  text_taken k promise = taken_as k (read_p2p text n answers) refl promise.reply promise.sources_left promise.targets_left

  pub text_refused : (x : Refusal) → P2pPromise text n answers a b (Err x) a' b' → read_p2p text n answers ≡ refused x
  text_refused x promise = refused_as x (read_p2p text n answers) promise.reply

  pub text_limits : (k : ℕ) → P2pPromise text n answers a b (Ok k) a' b' → P2pLimits n k a' b' × (256 ≤ length answers)
  text_limits k promise =
      let t = text_taken k promise in
      (read_p2p_limits text n answers a b k a' b' promise, (p2p_read text n answers t.problem t.queries t.is_read).0)

-- ---- both

pub list_says : {text : List ℕ} {n m : ℕ} {R : Rows} {x y boxes : List ℤ} {k : ℕ} {sources targets before after : List ℕ} {T : Totals}
    → Taken text n before k sources targets → day_judged boxes_alone n m R (box_signs x y boxes) ≡ fine
    → AllAnswered n m R x y boxes k sources targets before after T → DaySays text n m R x y boxes before (paper (Ok T)) after
list_says {k = k} t f all =
    let a = all t.queries t.long t.in_rows in
    let long = t.long in
    let each = rw (take_all k t.queries (omega arith)) at a.each in
    rw (a.found, a.without, a.sum, a.filled, ← a.count) (answered t.is_read f each)
