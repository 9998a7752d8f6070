-- The settled count.
use Rattle.std.specs.Prelude.{ℕ, suc}
use Rattle.walks.specs.Walk.{Net}
use Rattle.walks.specs.Order.{Before}
use Rattle.walks.specs.Least.{Reached, Best}
use Rattle.walks.specs.Count.{Count}

-- v's triple (d, k, node number) comes before the triple (d, k, t)
pub record Earlier (N : Net) (s t d k v : ℕ) : Type 0 where
  pub length : ℕ
  pub count : ℕ
  pub best : Best N s v length count
  pub before : Before length count v d k t

-- c nodes are settled by a search from s to t among nodes 1..n. If t can be reached, that is one plus the number of nodes
-- whose triple comes before t's; otherwise it is the number of nodes reachable from s, s included.
pub data Settled (N : Net) (n s t : ℕ) : ℕ → Type 0 where
  found : {c d k : ℕ} → Best N s t d k → Count (Earlier N s t d k) n c → Settled N n s t (suc c)
  missed : {c : ℕ} → ¬ Reached N s t → Count (Reached N s) n c → Settled N n s t c
