-- Texts that are put on a page.
use Rattle.std.specs.Prelude.{◌≡◌, List, ◌++◌, ℕ}

-- the text was put after what stood on the page
abbrev pub Puts : List ℕ → List ℕ → List ℕ → Type 0
Puts text before after = after ≡ before ++ text

-- a reply that is said stands on the page, whatever was held (the contents of the files that were asked for)
pub record Replied {A : Type 0} (Says : A → List ℕ → Type 0) (page : List ℕ) : Type 0 where
  pub held : A
  pub says : Says held page
