-- Each call of a reader has one reply and one content of every lent row, refused calls too.
use mathlib.Core.Path.{◌≡◌, refl, sym, ap, ◌∙◌}
use mathlib.Core.List.{List, [], ◌∷◌}
use Prim.Native.Nat.{ℕ}
use lib.IntN.{ℤ}
use lib.ListN.{get_or}
use Rattle.rules.specs.Paper.{Reply}
use Rattle.rules.proofs.PaperLaws.{refusal_injective}
use Rattle.dimacs.specs.Reading.{gr_reply, co_reply, p2p_reply}
use Rattle.dimacs.specs.Promise.{GrPromise, CoPromise, P2pPromise}
use Rattle.dimacs.proofs.Accepted.{not_accepted}
use Rattle.std.specs.Prelude.{Result, Ok, Err}
use Rattle.rules.specs.declared.Sizes.{Sizes}
use Rattle.rules.specs.declared.Refusal.{Refusal}
use Rattle.rules.specs.Judging.{Judged}

-- no two answers have the same number and values
pub gr_reply_injective : (r s : Result Sizes Refusal) → gr_reply r ≡ gr_reply s → r ≡ s
gr_reply_injective (Ok a) (Ok b) e =
    let n : a.n ≡ b.n = ap (λ (x : Reply). get_or x.values 0 0) e in
    let m : a.m ≡ b.m = ap (λ (x : Reply). get_or x.values 1 0) e in
    let same : record { n = a.n; m = a.m } ≡ b = rw (n, m) in
    ap Ok same
gr_reply_injective (Ok a) (Err s) e = absurd (not_accepted s (a.n ∷ a.m ∷ []) (sym e))
gr_reply_injective (Err r) (Ok b) e = absurd (not_accepted r (b.n ∷ b.m ∷ []) e)
gr_reply_injective (Err r) (Err s) e = ap Err (refusal_injective r s e)

pub co_reply_injective : (r s : Judged) → co_reply r ≡ co_reply s → r ≡ s
co_reply_injective (Ok _) (Ok _) e = refl
co_reply_injective (Ok _) (Err s) e = absurd (not_accepted s [] (sym e))
co_reply_injective (Err r) (Ok _) e = absurd (not_accepted r [] e)
co_reply_injective (Err r) (Err s) e = ap Err (refusal_injective r s e)

pub p2p_reply_injective : (r s : Result ℕ Refusal) → p2p_reply r ≡ p2p_reply s → r ≡ s
p2p_reply_injective (Ok k) (Ok l) e = ap Ok (ap (λ (x : Reply). get_or x.values 0 0) e)
p2p_reply_injective (Ok k) (Err s) e = absurd (not_accepted s (k ∷ []) (sym e))
p2p_reply_injective (Err r) (Ok l) e = absurd (not_accepted r (l ∷ []) e)
p2p_reply_injective (Err r) (Err s) e = ap Err (refusal_injective r s e)

pub read_gr_unique : (text tails heads weights closures : List ℕ) (r s : Result Sizes Refusal) (a b c d a' b' c' d' : List ℕ)
    → GrPromise text tails heads weights closures r a b c d → GrPromise text tails heads weights closures s a' b' c' d'
    → (r ≡ s) × (a ≡ a') × (b ≡ b') × (c ≡ c') × (d ≡ d')
read_gr_unique text tails heads weights closures r s a b c d a' b' c' d' p q = (
  gr_reply_injective r s (p.reply ∙ sym q.reply),
  p.tails_left ∙ sym q.tails_left,
  p.heads_left ∙ sym q.heads_left,
  p.weights_left ∙ sym q.weights_left,
  p.closures_left ∙ sym q.closures_left,
)

pub read_co_unique : (text : List ℕ) (n : ℕ) (x y : List ℤ) (r s : Judged) (a b a' b' : List ℤ)
    → CoPromise text n x y r a b → CoPromise text n x y s a' b' → (r ≡ s) × (a ≡ a') × (b ≡ b')
read_co_unique text n x y r s a b a' b' p q = (co_reply_injective r s (p.reply ∙ sym q.reply), p.x_left ∙ sym q.x_left, p.y_left ∙ sym q.y_left)

pub read_p2p_unique : (text : List ℕ) (n : ℕ) (answers sources targets : List ℕ) (r s : Result ℕ Refusal) (a b a' b' : List ℕ)
    → P2pPromise text n answers sources targets r a b → P2pPromise text n answers sources targets s a' b' → (r ≡ s) × (a ≡ a') × (b ≡ b')
read_p2p_unique text n answers sources targets r s a b a' b' p q =
    (p2p_reply_injective r s (p.reply ∙ sym q.reply), p.sources_left ∙ sym q.sources_left, p.targets_left ∙ sym q.targets_left)
