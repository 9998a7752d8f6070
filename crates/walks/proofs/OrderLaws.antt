-- The laws of the two orders.
use mathlib.Core.Path.{◌≡◌, sym}
use Prim.Native.Nat.{ℕ, ◌+◌}
use native.Mathlib.Nat.{le_trans}
use native.Mathlib.Omega.{arith}
use Rattle.walks.specs.Order.{Before, Less, NotAfter}

module _ {d k d' k' d'' k'' : ℕ} where
  pub NotAfter_trans : NotAfter d k d' k' → NotAfter d' k' d'' k'' → NotAfter d k d'' k''
  NotAfter_trans p q = (omega arith, λ h. le_trans (p.1 (omega arith)) (q.1 (omega arith)))

  pub less_NotAfter : Less d k d' k' → NotAfter d' k' d'' k'' → Less d k d'' k''
  less_NotAfter p q = (omega arith, λ h. le_trans (p.1 (omega arith)) (q.1 (omega arith)))

  pub NotAfter_less : NotAfter d k d' k' → Less d' k' d'' k'' → Less d k d'' k''
  NotAfter_less p q = (omega arith, λ h. omega (arith, p.1 (omega arith), q.1 (omega arith)))

module _ {d k d' k' : ℕ} where
  pub less_weak : Less d k d' k' → NotAfter d k d' k'
  less_weak p = (p.0, λ h. omega (arith, p.1 h))

  -- both ways round is impossible
  pub less_not : Less d k d' k' → NotAfter d' k' d k → ⊥
  less_not p q = omega (arith, p.1 (omega arith), q.1 (omega arith))

  pub NotAfter_both : NotAfter d k d' k' → NotAfter d' k' d k → (d ≡ d') × (k ≡ k')
  NotAfter_both p q = (omega arith, omega (arith, p.1 (omega arith), q.1 (omega arith)))

  pub before_NotAfter : {v v' : ℕ} → Before d k v d' k' v' → NotAfter d k d' k'
  before_NotAfter p = (p.0, λ h. (p.1 h).0)

  pub less_before : {v v' : ℕ} → Less d k d' k' → Before d k v d' k' v'
  less_before p = (p.0, λ h. (omega (arith, p.1 h), λ h'. absurd (omega (arith, p.1 h))))

  -- the same arc added to two walks
  pub NotAfter_add : (w : ℕ) → NotAfter d k d' k' → NotAfter (d + w) (k + 1) (d' + w) (k' + 1)
  NotAfter_add w p = (omega arith, λ h. omega (arith, p.1 (omega arith)))

  pub before_not : {v v' : ℕ} → Before d k v d' k' v' → Before d' k' v' d k v → ⊥
  before_not p q =
      let e : d ≡ d' = omega arith in
      let a = p.1 e in
      let b = q.1 (sym e) in
      let c : k ≡ k' = omega arith in
      omega (arith, b.1 (sym c), a.1 c)

pub NotAfter_refl : (d k : ℕ) → NotAfter d k d k
NotAfter_refl d k = (omega arith, λ h. omega arith)

-- an arc more is later, even one of weight 0
pub less_add : (d k w : ℕ) → Less d k (d + w) (k + 1)
less_add d k w = (omega arith, λ h. omega arith)

-- the same, the numbers written otherwise
pub NotAfter_as : {d k d' k' e j e' j' : ℕ} → d ≡ e → k ≡ j → d' ≡ e' → k' ≡ j' → NotAfter d k d' k' → NotAfter e j e' j'
NotAfter_as p q p' q' h = (omega arith, λ x. omega (arith, h.1 (omega arith)))

pub before_as : {d k v d' k' v' e j e' j' : ℕ} → d ≡ e → k ≡ j → d' ≡ e' → k' ≡ j' → Before d k v d' k' v' → Before e j v e' j' v'
before_as p q p' q' h = (omega arith, λ x. (omega (arith, h.1 (omega arith)), λ y. (h.1 (omega arith)).1 (omega arith)))
