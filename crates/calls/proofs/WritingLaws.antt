-- A written text fits its row; for the same rows, and the same file afterwards, `save` has one reply.
use Rattle.std.proofs.Common.{◌≡◌, refl, sym, ap, ◌∙◌, ℕ, ◌≤◌, ℤ, List, [], ◌∷◌, length, drop, get_or, Result, Ok, Err, arith}
use lib.ListN.{length-append}
use Rattle.walks.specs.Rows.{Rows}
use Rattle.rules.specs.Paper.{Reply}
use Rattle.rules.specs.Judging.{Judged}
use Rattle.rules.specs.declared.Refusal.{Refusal}
use Rattle.rules.specs.declared.Sizes.{Sizes}
use Rattle.dimacs.proofs.Accepted.{not_accepted}
use Rattle.files.specs.File.{Held}
use Rattle.commands.specs.declared.verbs.Format.{Format}
use Rattle.writing.specs.Writes.{Writes, write_says}
use Rattle.writing.proofs.Unique.{write_reply_injective}
use Rattle.replies.specs.Replies.{written_line}
use Rattle.calls.specs.Writing.{text_of, text_judged, TextWrites, Saves}

-- a text that was written has room in the row
pub written-fits : (j : Judged) (text row : List ℕ) {row' : List ℕ} {k : ℕ} → Writes j text row (Ok k) row' → k ≤ length row'
written-fits (Ok _) text row {row'} {k} w =
    let same : k ≡ length text = ap (λ (x : Reply). get_or x.values 0 0) w.reply in
    let long = ap (length {A = ℕ}) w.left ∙ length-append text (drop (length text) row) in
    omega (arith, same, long)
written-fits (Err r) text row {row'} {k} w = absurd (not_accepted r (k ∷ []) (sym w.reply))

-- the reply goes by the length of the row alone
same_reply : (format : Format) (sizes : Sizes) (R : Rows) (x y : List ℤ) {places : ℕ} {row other a b : List ℕ} {r s : Result ℕ Refusal} → length row ≡ places → length other ≡ places
    → TextWrites format sizes R x y row r a → TextWrites format sizes R x y other s b → r ≡ s
same_reply format sizes R x y {r = r} {s = s} l m p q =
    write_reply_injective r s (p.reply ∙ ap (λ (k : ℕ). write_says (text_judged format sizes R x y k) (length (text_of format sizes R x y))) (l ∙ sym m) ∙ sym q.reply)

module _ {format : Format} {sizes : Sizes} {R : Rows} {x y : List ℤ} where
  pub saves_unique : {held : Held} {places : ℕ} {reply reply' : List ℕ} → Saves held format sizes R x y places reply → Saves held format sizes R x y places reply' → reply ≡ reply'
  saves_unique (Saves.refused l w) (Saves.refused m v) = ap written_line (same_reply format sizes R x y l m w v)
  saves_unique (Saves.refused l w) (Saves.saved m v h) = ap written_line (same_reply format sizes R x y l m w v)
  saves_unique (Saves.refused l w) (Saves.unsaved m v h) = let e = same_reply format sizes R x y m l v w in cc
  saves_unique (Saves.saved l w h) (Saves.refused m v) = ap written_line (same_reply format sizes R x y l m w v)
  saves_unique (Saves.saved l w h) (Saves.saved m v i) = ap written_line (same_reply format sizes R x y l m w v)
  saves_unique (Saves.saved l w h) (Saves.unsaved m v i) = cc
  saves_unique (Saves.unsaved l w h) (Saves.refused m v) = let e = same_reply format sizes R x y l m w v in cc
  saves_unique (Saves.unsaved l w h) (Saves.saved m v i) = cc
  saves_unique (Saves.unsaved l w h) (Saves.unsaved m v i) = refl
