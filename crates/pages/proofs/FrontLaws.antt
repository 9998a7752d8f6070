-- Laws of a text that is put at the front of the bytes after the text so far.
use Prim.Native.Nat.{ℕ, ◌+◌, ◌-◌, ◌≤◌}
use mathlib.Core.Path.{◌≡◌, sym, ap, ◌∙◌, refl}
use mathlib.Core.List.{List, [], ◌∷◌, ◌++◌}
use native.Mathlib.Nat.{not-suc-le-zero}
use native.Mathlib.Omega.{arith}
use lib.ListN.{length, take, set}
use lib.Seq.{take-append-add, take-append-le, length-take-le}
use borrow.Table.Elements.{take-le}
use borrow.Rule.Slice.PartMut.{put_mid, post_of, mid_of, mid_len}
use Rattle.std.proofs.Common.{length-set}

module _ (end k room : ℕ) (bytes new : List ℕ) (h : end ≤ length bytes) where
  -- the bytes before stay, and the text follows
  pub put_front : (text : List ℕ) → k ≡ length text → take k new ≡ text → take (end + k) (put_mid end room bytes new) ≡ take end bytes ++ text
  put_front text l e =
      let fits = rw e at (take-le k new) in
      ap (λ (m : ℕ). take (m + k) (put_mid end room bytes new)) (sym (length-take-le end bytes h))
      ∙ (take-append-add (take end bytes) (new ++ post_of end room bytes) k
      ∙ ap (λ (t : List ℕ). take end bytes ++ t) (take-append-le k new (post_of end room bytes) (omega (arith, l, fits)) ∙ e))

-- after a byte that is put first there is room for what fits beside it
pub room_after : (bytes : List ℕ) (b k : ℕ) → 1 + k ≤ length bytes → k ≤ length (mid_of 1 (length (set bytes 0 b) - 1) (set bytes 0 b))
room_after bytes b k h =
    let same = length-set bytes 0 b in
    let room = mid_len 1 (length (set bytes 0 b)) (set bytes 0 b) (omega (arith, same, h)) in
    omega (arith, same, room, h)

-- a byte that is put first is all that stands before the rest
pub take_set_first : (bytes : List ℕ) (b : ℕ) → 1 ≤ length bytes → take 1 (set bytes 0 b) ≡ b ∷ []
take_set_first [] b h = absurd (not-suc-le-zero h)
take_set_first (x ∷ more) b h = refl
