-- The first node that a box or a mask misses.
use Rattle.std.specs.Prelude.{ℕ, ◌+◌, ◌≤◌, ◌<◌, ◌≡◌, Bool, true, false, not, ◌&&◌, Option, Some, None}
use Rattle.walks.specs.Rows.{Rows}
use Rattle.rules.specs.declared.Asked.{Asked}
use Rattle.passing.specs.Signs.{Signs}
use Rattle.passing.specs.Asking.{tests_toward, keeps}
use Rattle.drawing.specs.declared.compare.Miss.{Miss}
use Rattle.drawing.specs.Leads.{leads_to}

-- arc e leads there, and does not pass
abbrev pub misses_by : (ℕ → Bool) → (ℕ → Bool) → ℕ → Bool
misses_by leads passes e = leads e && not (passes e)

-- what is asked misses, for arc e, the node t of its S(e)
unfoldable pub misses_node : Rows → ℕ → ℕ → Asked → Signs → ℕ → ℕ → Bool
misses_node R n m asked G t = misses_by (leads_to R n m t) (keeps (tests_toward asked G.x G.y G.modules t) R.closures G.boxes G.masks)

-- e is the place of the first of the numbers 1..k that passes a test
pub record FirstAt (test : ℕ → Bool) (k e : ℕ) : Type 0 where
  pub inside : e < k
  pub fails : (i : ℕ) → i < e → test (i + 1) ≡ false
  pub passes : test (e + 1) ≡ true

-- that place; or none passes
abbrev pub FirstPlace : (ℕ → Bool) → ℕ → Option ℕ → Type 0
FirstPlace test k None = (i : ℕ) → i < k → test (i + 1) ≡ false
FirstPlace test k (Some e) = FirstAt test k e

-- of the arcs 1..m, e is the lowest that a test of a node and an arc passes for some node of 1..n, and t the lowest such node
pub record Lowest (test : ℕ → ℕ → Bool) (n m e t : ℕ) : Type 0 where
  pub arc_low : 1 ≤ e
  pub arc_high : e ≤ m
  pub node_low : 1 ≤ t
  pub node_high : t ≤ n
  pub passes : test t e ≡ true
  pub arc_first : (j i : ℕ) → 1 ≤ j → j ≤ n → 1 ≤ i → i < e → test j i ≡ false
  pub node_first : (j : ℕ) → 1 ≤ j → j < t → test j e ≡ false

-- the first miss, by a test of a node and an arc
abbrev pub IsFirst : (ℕ → ℕ → Bool) → ℕ → ℕ → Option Miss → Type 0
IsFirst test n m None = (t e : ℕ) → 1 ≤ t → t ≤ n → 1 ≤ e → e ≤ m → test t e ≡ false
IsFirst test n m (Some miss) = Lowest test n m miss.arc miss.node
