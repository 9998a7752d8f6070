-- Laws of values that stand each after a space.
use Prim.Native.Nat.{ℕ, ◌+◌, ◌<◌}
use Prim.Native.Char.{code}
use mathlib.Core.Path.{◌≡◌, sym, ap, ◌∙◌}
use mathlib.Core.List.{List, [], ◌∷◌, ◌++◌, append_assoc, append-nil}
use native.Mathlib.Numerals.{add-one}
use lib.ListN.{length, take, get_or}
use lib.Seq.{take-suc}
use Rattle.scan.specs.Ascii.{bytes}
use Rattle.pages.specs.Spaced.{spaced}

module _ {A : Type 0} (text : A → List ℕ) where
  -- one value more
  spaced_more : (l : List A) (v : A) → spaced text (l ++ (v ∷ [])) ≡ spaced text l ++ ((code " " ∷ []) ++ text v)
  unfolding spaced bytes
  spaced_more [] v = append-nil (code " " ∷ text v)
  spaced_more (w ∷ l) v = ap (λ (t : List ℕ). (code " " ∷ text w) ++ t) (spaced_more l v) ∙ sym (append_assoc (code " " ∷ text w) (spaced text l) ((code " " ∷ []) ++ text v))

  -- a row's next value is put after a space
  pub spaced_next : (l : List A) (v : A) (i : ℕ) (before : List ℕ) {page : List ℕ} → i < length l → v ≡ get_or l i v → page ≡ before ++ spaced text (take i l) → page ++ ((code " " ∷ []) ++ text v) ≡ before ++ spaced text (take (i + 1) l)
  spaced_next l v i before h e p =
      rw (add-one i, take-suc l i v, ← e, spaced_more (take i l) v, p)
      (append_assoc before (spaced text (take i l)) ((code " " ∷ []) ++ text v))
