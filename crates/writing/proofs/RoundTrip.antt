-- Request a is so: what is written is read as it was, and what is read is written as it was exactly where it was plain.
use Rattle.std.specs.Prelude.{Result, Ok, Err}
use Rattle.rules.specs.Judging.{Judged}
use Rattle.rules.specs.declared.Refusal.{Refusal}
use Rattle.rules.specs.declared.Sizes.{Sizes}
use Prim.Native.Nat.{ℕ, ◌≤◌}
use mathlib.Core.Path.{◌≡◌, refl, sym, ap, subst, ◌∙◌}
use mathlib.Core.Bool.{true}
use mathlib.Core.List.{List, [], ◌∷◌, ◌++◌}
use lib.Dec.{leb}
use lib.IntN.{ℤ}
use lib.ListN.{length, take, drop, get_or}
use borrow.Author.Tests.{le-leb}
use Rattle.rules.specs.Paper.{Reply}
use Rattle.rules.proofs.JudgingLaws.{both_fine}
use Rattle.dimacs.proofs.Accepted.{not_accepted, read_gr_open}
use Rattle.dimacs.specs.Promise.{GrPromise, CoPromise}
use Rattle.walks.specs.Rows.{open_rows}
use Rattle.judging.specs.Order.{lengths, arcs_judged}
use Rattle.judging.proofs.StageLaws.{arcs_fine_open}
use Rattle.writing.specs.Text.{gr_text, co_text}
use Rattle.writing.specs.Writes.{gr_write_judged, places_judged, co_write_judged, Writes}
use Rattle.writing.specs.RoundTrip.{WroteBack, GrReadBack, GrLength, CoReadBack, CoLength, GrWriteBack, CoWriteBack}
use Rattle.writing.proofs.WriteLaws.{gr_judged, co_judged, gr_limits, gr_fine, Placed, places_fine}
use Rattle.writing.proofs.Unique.{write_reply_injective}
use Rattle.writing.proofs.LengthLaws.{co_most}
use Rattle.writing.proofs.Rewritten.{network-again, places_again}
use Rattle.writing.proofs.GrTrip.{read_written_gr, write_read_gr}
use Rattle.writing.proofs.CoTrip.{read_written_co, write_read_co}

take_front : (a b : List ℕ) → take (length a) (a ++ b) ≡ a
take_front [] b = refl
take_front (c ∷ a) b = ap (λ (l : List ℕ). c ∷ l) (take_front a b)

-- a call that was accepted wrote its text
written_is : (j : Judged) (text row : List ℕ) (k : ℕ) (row' : List ℕ) → Writes j text row (Ok k) row' → (j ≡ Ok tt) × (k ≡ length text) × (take k row' ≡ text)
written_is (Ok _) text row k row' w =
    let n : k ≡ length text = ap (λ (r : Reply). get_or r.values 0 0) w.reply in
    (refl, n, rw (n, w.left) (take_front text (drop (length text) row)))
written_is (Err r) text row k row' w = absurd (not_accepted r (k ∷ []) (sym w.reply))

-- a call that was judged fine was accepted
accepted_is : (j : Judged) (text row : List ℕ) (r : Result ℕ Refusal) (row' : List ℕ) → j ≡ Ok tt → Writes j text row r row' → WroteBack text row r row'
accepted_is (Ok _) text row r row' e w = (write_reply_injective r (Ok (length text)) w.reply, w.left)
accepted_is (Err x) text row r row' e w = cc

-- a text that came back was the text that was written
came_back : (j : Judged) (text written row : List ℕ) (r : Result ℕ Refusal) (row' : List ℕ) → Writes j written row r row' → WroteBack text row r row' → written ≡ text
came_back j text written row r row' w b =
    let v = written_is j written row (length text) row' (subst (λ (s : Result ℕ Refusal). Writes j written row s row') b.0 w) in
    sym v.2 ∙ (ap (λ (l : List ℕ). take (length text) l) b.1 ∙ take_front text (drop (length text) row))

module _ (n m : ℕ) (tails heads weights row : List ℕ) (k : ℕ) (row' : List ℕ) where
  pub gr_read_back : GrReadBack n m tails heads weights row k row'
  gr_read_back w a b c d la lb lc ld r a' b' c' d' p =
      let R = open_rows tails heads weights in
      let u = written_is (gr_write_judged n m R (length row)) (gr_text n m R) row k row' w in
      let j = both_fine (arcs_judged n m R true) (lengths (leb (length (gr_text n m R)) (length row))) (sym (gr_judged n m R (length row)) ∙ u.0) in
      let g = gr_limits n m _ (arcs_fine_open n m R true j.0).0 in
      let e = read_written_gr n m tails heads weights g a b c d la lb lc ld r a' b' c' d' (subst (λ (t : List ℕ). GrPromise t a b c d r a' b' c' d') u.2 p) in
      let open_arcs = read_gr_open (take k row') a b c d n m a' b' c' d' (subst (λ (s : Result Sizes Refusal). GrPromise (take k row') a b c d s a' b' c' d') e.0 p) in
      (e.0, λ i h. (e.1 i h).0, λ i h. (e.1 i h).1, λ i h. (e.1 i h).2, open_arcs)

  pub gr_length : GrLength n m tails heads weights row k row'
  gr_length w =
      let R = open_rows tails heads weights in
      let d = written_is (gr_write_judged n m R (length row)) (gr_text n m R) row k row' w in
      let j = both_fine (arcs_judged n m R true) (lengths (leb (length (gr_text n m R)) (length row))) (sym (gr_judged n m R (length row)) ∙ d.0) in
      rw d.1 (gr_fine n m R j.0).3

module _ (n : ℕ) (x y : List ℤ) (row : List ℕ) (k : ℕ) (row' : List ℕ) where
  placed : Writes (co_write_judged n x y (length row)) (co_text n x y) row (Ok k) row' → Placed n x y
  placed w =
      let d = written_is (co_write_judged n x y (length row)) (co_text n x y) row k row' w in
      places_fine n x y (both_fine (places_judged n x y) (lengths (leb (length (co_text n x y)) (length row))) (sym (co_judged n x y (length row)) ∙ d.0)).0

  pub co_read_back : CoReadBack n x y row k row'
  co_read_back w a b la lb r a' b' p =
      let d = written_is (co_write_judged n x y (length row)) (co_text n x y) row k row' w in
      let s = placed w in
      let e = read_written_co n s.some s.few x y s.limits a b la lb r a' b' (subst (λ (t : List ℕ). CoPromise t n a b r a' b') d.2 p) in
      (e.0, λ i h. (e.1 i h).0, λ i h. (e.1 i h).1)

  pub co_length : CoLength n x y row k row'
  co_length w =
      let d = written_is (co_write_judged n x y (length row)) (co_text n x y) row k row' w in
      rw d.1 (co_most n (placed w).few x y (placed w).limits)

pub gr_write_back : (text : List ℕ) → GrWriteBack text
gr_write_back text a b c d n m a' b' c' d' p row room r row' w =
    let R = open_rows a' b' c' in
    let back = write_read_gr text a b c d n m a' b' c' d' p in (
      (λ t. back.0 (came_back _ text (gr_text n m R) row r row' w t)),
      (λ plain.
          let same : gr_text n m R ≡ text = back.1 plain in
          let long : length (gr_text n m R) ≤ length row = rw same room in
          let fine : gr_write_judged n m R (length row) ≡ Ok tt = gr_judged n m R (length row) ∙ rw (network-again text a b c d n m a' b' c' d' p, le-leb (length (gr_text n m R)) (length row) long) in
          subst (λ (t : List ℕ). WroteBack t row r row') same (accepted_is (gr_write_judged n m R (length row)) (gr_text n m R) row r row' fine w)),
    )

pub co_write_back : (text : List ℕ) → CoWriteBack text
co_write_back text n a b a' b' p row room r row' w =
    let back = write_read_co text n a b a' b' p in (
      (λ t. back.0 (came_back _ text (co_text n a' b') row r row' w t)),
      (λ plain.
          let same : co_text n a' b' ≡ text = back.1 plain in
          let long : length (co_text n a' b') ≤ length row = rw same room in
          let fine : co_write_judged n a' b' (length row) ≡ Ok tt = co_judged n a' b' (length row) ∙ rw (places_again text n a b a' b' p, le-leb (length (co_text n a' b')) (length row) long) in
          subst (λ (t : List ℕ). WroteBack t row r row') same (accepted_is (co_write_judged n a' b' (length row)) (co_text n a' b') row r row' fine w)),
    )
