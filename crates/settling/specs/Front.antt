-- The nodes that are labelled and not settled, in a tree by the keys of their labels.
use Rattle.std.specs.Prelude.{ℕ, ◌+◌, ◌<◌, ◌≤◌, Bool, false, not, cond, ◌&&◌, ◌≡◌, List, get_or, ltb}
use Rattle.frontier.specs.Tree.{key_of, far, Mended}
use Rattle.settling.specs.declared.Labels.{Labels}
use Rattle.settling.specs.Labels.{none}
use Rattle.settling.specs.Stage.{Sized}

-- the key of leaf v: that of its node's label, where it is labelled and not settled
unfoldable pub leaf_key : Bool → ℕ → ℕ → ℕ → ℕ
leaf_key done l k v = cond (not done && ltb l none) (key_of l k v) far

-- the tree of these labels
pub record Front (L : Labels) (tree : List ℕ) : Type 0 where
  pub mended : Mended tree
  pub leaf : (v : ℕ) → v < 512 → get_or tree (512 + v) 0 ≡ leaf_key (get_or L.settled v false) (get_or L.length v 0) (get_or L.arcs v 0) v
  pub sized : Sized L

-- a label that a node may be offered
pub record Offer (v l k : ℕ) : Type 0 where
  pub low : 1 ≤ v
  pub high : v ≤ 512
  pub near : l < none
  pub few : k ≤ 1_022

-- the labels have become what they are to be, and the tree is theirs
pub record Become (goal L : Labels) (tree : List ℕ) : Type 0 where
  pub same : L ≡ goal
  pub front : Front L tree
