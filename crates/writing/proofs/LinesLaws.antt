-- A text of a line and of listed lines after it, as it grows on a page.
use Prim.Native.Nat.{ℕ, zero, suc, ◌+◌, ◌-◌, ◌≤◌}
use mathlib.Core.Path.{◌≡◌, sym, ap, ◌∙◌}
use mathlib.Core.List.{List, [], ◌∷◌, ◌++◌, append_assoc, append-nil}
use native.Mathlib.Omega.{arith}
use native.Mathlib.Numerals.{add-one}
use lib.ListN.{length}
use Rattle.scan.specs.Written.{closed, listed}
use Rattle.pages.specs.Page.{Puts}
use Rattle.writing.proofs.LengthLaws.{closed_both, closed_long, listed_step}

module _ (f : ℕ → List ℕ) where
  -- nothing is listed yet
  pub lines_none : (p : List ℕ) → Puts (closed (listed f 0)) p p
  unfolding listed closed
  lines_none p = sym (append-nil p)

  -- the lines so far, and one more
  pub lines_more : (l : List ℕ) (i : ℕ) → closed (l ∷ listed f (i + 1)) ≡ closed (l ∷ listed f i) ++ closed (f (i + 1) ∷ [])
  unfolding listed
  lines_more l i = rw (add-one i) (closed_both (l ∷ listed f i) (f (suc i) ∷ []))

  -- a part is no longer than the whole
  longer : (k i : ℕ) → length (closed (listed f i)) ≤ length (closed (listed f (k + i)))
  longer zero i = let e : 0 + i ≡ i = omega arith in rw e (omega arith)
  longer (suc k) i =
      let e : suc k + i ≡ suc (k + i) = omega arith in
      let a = longer k i in
      let b = listed_step f (k + i) in
      rw e (omega arith)

  -- after i of the listed lines no more is written than the whole text takes
  pub lines_room : (l : List ℕ) (i m most : ℕ) → i ≤ m → length (closed (l ∷ listed f m)) ≤ most → length (closed (l ∷ listed f i)) ≤ most
  lines_room l i m most h k =
      let c = closed_long l (listed f i) in
      let d = closed_long l (listed f m) in
      let same : m - i + i ≡ m = omega arith in
      let g = rw same at (longer (m - i) i) in
      omega arith

  -- a line, and all the listed ones after it
  pub lines_all : (l : List ℕ) (m : ℕ) (p q t : List ℕ) → Puts (closed (l ∷ [])) p q → Puts (closed (listed f m)) q t → Puts (closed (l ∷ listed f m)) p t
  lines_all l m p q t x y =
      y ∙ (ap (λ (z : List ℕ). z ++ closed (listed f m)) x ∙ (append_assoc p _ _ ∙ sym (ap (λ (z : List ℕ). p ++ z) (closed_both (l ∷ []) (listed f m)))))
