-- A tree of keys. The two places below place i are 2 * i and 2 * i + 1; leaf v, for node v + 1, stands at place 512 + v.
use Rattle.std.specs.Prelude.{ℕ, ◌+◌, ◌*◌, ◌%◌, ◌<◌, ◌≤◌, cond, ◌≡◌, List, length, get_or, set, leb, min, Option, Some, None}

-- the key of the label (l, k) at leaf v: keys are ordered by length, then by arc count, then by node
abbrev pub key_of : ℕ → ℕ → ℕ → ℕ
key_of l k v = l * 1_048_576 + k * 1_024 + (v + 1)

-- the key of a leaf without a node
abbrev pub far : ℕ
far = 4_503_599_626_321_920

-- the node of a key
unfoldable pub pick_of : ℕ → Option ℕ
pick_of x = cond (leb far x) None (Some (x % 1_024))

-- each place above the leaves has the lesser of the two keys below it
pub record Mended (t : List ℕ) : Type 0 where
  pub long : length t ≡ 1_024
  pub lesser : (i : ℕ) → 1 ≤ i → i < 512 → get_or t i 0 ≡ min (get_or t (2 * i) 0) (get_or t (2 * i + 1) 0)

pub record SameLeaves (t t' : List ℕ) : Type 0 where
  pub leaf : (i : ℕ) → 512 ≤ i → get_or t' i 0 ≡ get_or t i 0

-- t' is a tree whose leaves are those of t, but for the key x at leaf v
pub record Rekeyed (t : List ℕ) (v x : ℕ) (t' : List ℕ) : Type 0 where
  pub mended : Mended t'
  pub leaves : SameLeaves (set t (512 + v) x) t'
