-- The network that is lent as rows of numbers. Nodes, arcs and places are numbered from 1. Walks use open arcs only.
use Rattle.std.specs.Prelude.{Bool, List, [], ℕ, ◌-◌, ◌≤◌, length, get_or, eqb}
use Rattle.walks.specs.Walk.{Net, kept}

-- the tails, heads, weights and closures of the arcs; a closure is 0 where the arc is open, and 1 where it is closed
pub record Rows : Type 0 where
  pub tails : List ℕ
  pub heads : List ℕ
  pub weights : List ℕ
  pub closures : List ℕ

abbrev pub rows : List ℕ → List ℕ → List ℕ → List ℕ → Rows
rows tails heads weights closures = record { tails = tails; heads = heads; weights = weights; closures = closures }

-- rows that are lent without closures: every arc is open
abbrev pub open_rows : List ℕ → List ℕ → List ℕ → Rows
open_rows tails heads weights = rows tails heads weights []

-- a row's place i
abbrev pub at : List ℕ → ℕ → ℕ
at row i = get_or row (i - 1) 0

-- all the arcs 1..m, closed ones too
unfoldable pub laid : ℕ → Rows → Net
laid m R = record { Arc = λ e. (1 ≤ e) × (e ≤ m); tail = at R.tails; head = at R.heads; weight = at R.weights }

-- whether arc e is open, by the row of closures
abbrev pub is_open : List ℕ → ℕ → Bool
is_open closures e = eqb (at closures e) 0

-- the network: of these arcs only the open ones
unfoldable pub network : ℕ → Rows → Net
network m R = kept (is_open R.closures) (laid m R)

-- the rows of the network with every arc turned round
abbrev pub turned : Rows → Rows
turned R = record { tails = R.heads; heads = R.tails; weights = R.weights; closures = R.closures }

-- an arc of a network of n nodes: its ends are nodes, and its weight is within the limit
pub record SoundArc (n tail head weight : ℕ) : Type 0 where
  pub tail_low : 1 ≤ tail
  pub tail_high : tail ≤ n
  pub head_low : 1 ≤ head
  pub head_high : head ≤ n
  pub weight_high : weight ≤ 1_000_000

-- Rows that hold a network of n nodes and m arcs, within the limits. The rows may be longer.
pub record Sound (n m : ℕ) (R : Rows) : Type 0 where
  pub nodes_low : 1 ≤ n
  pub nodes_high : n ≤ 512
  pub arcs_high : m ≤ 2048
  pub tails_long : m ≤ length R.tails
  pub heads_long : m ≤ length R.heads
  pub weights_long : m ≤ length R.weights
  pub closures_long : m ≤ length R.closures
  pub arcs : (e : ℕ) → 1 ≤ e → e ≤ m → SoundArc n (at R.tails e) (at R.heads e) (at R.weights e)
