-- What becomes of an arc's entry by the nodes that the arc leads to: a box takes in their places, a mask their modules.
use Rattle.std.specs.Prelude.{ℕ, zero, suc, ◌≡◌, Bool, cond, List, ℤ}
use Rattle.geometry.specs.Box.{Box}
use Rattle.geometry.specs.Hull.{taken}
use Rattle.geometry.specs.Row.{coordinate}
use Rattle.masks.specs.Mask.{lighted}
use Rattle.walks.specs.Rows.{at}

-- a box with the place of node t, and a mask with its module
abbrev pub add_place : List ℤ → List ℤ → ℕ → Box → Box
add_place x y t b = taken b (coordinate x t) (coordinate y t)

abbrev pub add_module : List ℕ → ℕ → ℕ → ℕ
add_module modules t mask = lighted mask (at modules t)

module _ {A : Type 0} where
  -- an entry with a node added, if the arc leads there
  unfoldable pub add_if : Bool → (A → A) → A → A
  add_if leads add b = cond leads (add b) b

  -- an entry with those of the nodes 1..n added to which its arc leads
  module _ (leads : ℕ → Bool) (add : ℕ → A → A) where
    unfoldable pub gathered : ℕ → A → A
    gathered zero b = b
    gathered (suc t) b = add_if (leads (suc t)) (add (suc t)) (gathered t b)

  -- ---- What becomes of arc e's entry b

  abbrev pub Emptied : A → ℕ → A → A → Type 0
  Emptied nothing e b c = c ≡ nothing

  abbrev pub AddedOnce : (ℕ → Bool) → (A → A) → ℕ → A → A → Type 0
  AddedOnce leads add e b c = c ≡ add_if (leads e) add b

  abbrev pub AddedAll : (ℕ → ℕ → Bool) → (ℕ → A → A) → ℕ → ℕ → A → A → Type 0
  AddedAll leads add n e b c = c ≡ gathered (λ t. leads t e) add n b
