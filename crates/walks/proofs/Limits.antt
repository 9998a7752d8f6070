-- How large lengths, arc counts and settled counts can be.
use mathlib.Core.Path.{◌≡◌, refl}
use mathlib.Core.Logic.{◌⊎◌, inl, inr, ◌≢◌}
use Prim.Native.Nat.{ℕ, ◌*◌, ◌≤◌, ◌<◌}
use native.Mathlib.Omega.{arith}
use Rattle.walks.specs.Walk.{Net, only, Walk, empty, then}
use Rattle.walks.specs.Rows.{Rows, laid, network, SoundArc, Sound}
use Rattle.walks.specs.Through.{InS}
use Rattle.walks.specs.Count.{Count}
use Rattle.walks.proofs.CountLaws.{count_more, count_most}
use Rattle.walks.specs.Settling.{Labelling, Progress, Next}

-- every arc joins nodes of 1..n, and its weight is within the limit
pub record Within (N : Net) (n : ℕ) : Type 0 where
  pub arcs : (e : ℕ) → N.Arc e → SoundArc n (N.tail e) (N.head e) (N.weight e)

pub only-within : {N : Net} {n : ℕ} {Keep : ℕ → Type 0} → Within N n → Within (only Keep N) n
only-within w = record { arcs = λ e a. w.arcs e a.0 }

pub laid-within : {n m : ℕ} {R : Rows} → Sound n m R → Within (laid m R) n
unfolding laid
laid-within s = record { arcs = λ e a. s.arcs e a.0 a.1 }

pub sound_within : {n m : ℕ} {R : Rows} → Sound n m R → Within (network m R) n
unfolding network
sound_within s = only-within (laid-within s)

module _ {N : Net} {n : ℕ} (W : Within N n) where
  pub walk_node : {u v l k : ℕ} → 1 ≤ u → u ≤ n → Walk N u v l k → (1 ≤ v) × (v ≤ n)
  walk_node low high empty = (low, high)
  walk_node low high (then e a w) = ((W.arcs e a).head_low, (W.arcs e a).head_high)

  pub walk_light : {u v l k : ℕ} → Walk N u v l k → l ≤ k * 1_000_000
  walk_light empty = omega arith
  walk_light (then {l = l} {k = k} e a w) = omega (arith, walk_light w, (W.arcs e a).weight_high)

  -- S(e) has nodes of 1..n only
  pub InS_node : {e t : ℕ} → InS N e t → (1 ≤ t) × (t ≤ n)
  InS_node {e} i = walk_node (W.arcs e i.arc).head_low (W.arcs e i.arc).head_high i.from_head.walk

-- a node that is not counted leaves room
pub count_room : {P : ℕ → Type 0} {n c : ℕ} (u : ℕ) → 1 ≤ u → u ≤ n → ¬ P u → Count P n c → c < n
count_room {P} u low high h p = count_most (count_more {Q = λ v. P v ⊎ (v ≡ u)} u low high h (inr refl) (λ v other. (inl, only_left v other)) p)
  where
    only_left : (v : ℕ) → v ≢ u → P v ⊎ (v ≡ u) → P v
    only_left v other (inl x) = x
    only_left v other (inr e) = absurd (other e)

-- While a node u of 1..n is next, no label has n arcs
pub few_arcs : {N : Net} {n s c u : ℕ} {L : Labelling} {Seen : ℕ → Type 0} → Progress N n s L Seen c → Next L u → 1 ≤ u → u ≤ n
    → (v : ℕ) → L.Labelled v → L.arcs v < n
few_arcs {u = u} P h low high v k = omega (arith, P.few v k, count_room u low high h.unsettled P.count)
