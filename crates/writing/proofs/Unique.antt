-- Each call of a writer has one reply and one content of the text row, refused calls too.
use Rattle.std.specs.Prelude.{Result, Ok, Err}
use Rattle.rules.specs.Judging.{Judged}
use Rattle.rules.specs.declared.Refusal.{Refusal}
use Prim.Native.Nat.{ℕ}
use mathlib.Core.Path.{◌≡◌, sym, ap, ◌∙◌}
use mathlib.Core.List.{List, [], ◌∷◌}
use lib.ListN.{get_or}
use Rattle.rules.specs.Paper.{Reply}
use Rattle.rules.proofs.PaperLaws.{refusal_injective}
use Rattle.dimacs.proofs.Accepted.{not_accepted}
use Rattle.writing.specs.Writes.{write_reply, Writes}

pub write_reply_injective : (r s : Result ℕ Refusal) → write_reply r ≡ write_reply s → r ≡ s
write_reply_injective (Ok a) (Ok b) e = ap Ok (ap (λ (x : Reply). get_or x.values 0 0) e)
write_reply_injective (Ok a) (Err s) e = absurd (not_accepted s (a ∷ []) (sym e))
write_reply_injective (Err r) (Ok b) e = absurd (not_accepted r (b ∷ []) e)
write_reply_injective (Err r) (Err s) e = ap Err (refusal_injective r s e)

pub writes_unique : (j : Judged) (text row : List ℕ) (r s : Result ℕ Refusal) (a b : List ℕ) → Writes j text row r a → Writes j text row s b → (r ≡ s) × (a ≡ b)
writes_unique j text row r s a b p q = (write_reply_injective r s (p.reply ∙ sym q.reply), p.left ∙ sym q.left)
