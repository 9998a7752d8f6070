-- Refusal 13 names one place only.
use mathlib.Core.Path.{◌≡◌, subst, sym}
use Prim.Native.Nat.{ℕ}
use native.Mathlib.Nat.{le_antisymm}
use Rattle.walks.specs.Walk.{Net}
use Rattle.walks.specs.Through.{Consistent}
use Rattle.walks.specs.Checking.{FirstMissed, Misses}

module _ {N : Net} {Keep : ℕ → ℕ → Type 0} where
  pub missed_arc : {e e' t t' : ℕ} → FirstMissed N Keep e t → FirstMissed N Keep e' t' → e ≡ e'
  missed_arc p q = le_antisymm (p.lowest_arc _ _ q.misses) (q.lowest_arc _ _ p.misses)

  pub missed_node : {e e' t t' : ℕ} → FirstMissed N Keep e t → FirstMissed N Keep e' t' → t ≡ t'
  missed_node {e} {e'} {t} {t'} p q =
      let same = missed_arc p q in
      le_antisymm (p.lowest_node t' (subst (λ (x : ℕ). Misses N Keep x t') (sym same) q.misses)) (q.lowest_node t (subst (λ (x : ℕ). Misses N Keep x t) same p.misses))

  -- yes and refusal 13 exclude one another
  pub consistent_misses : {e t : ℕ} → Consistent N Keep → Misses N Keep e t → ⊥
  consistent_misses h m = m.refused (h.keeps _ _ m.member)
