-- S(e) has the nodes to which its arc leads, and no other.
use Prim.Native.Nat.{ℕ, zero, suc, ◌+◌, ◌≤◌, ◌<◌}
use mathlib.Core.Path.{◌≡◌, sym, ap, ◌∙◌}
use mathlib.Core.Logic.{inl, inr, ⊎_elim, ◌↔◌}
use mathlib.Core.Bool.{Bool, true, false≢true}
use mathlib.Core.List.{List}
use native.Mathlib.Omega.{arith}
use native.Mathlib.Decide.{ℕ_discrete}
use Rattle.walks.specs.Rows.{Rows, Sound, network}
use Rattle.walks.specs.Through.{InS}
use Rattle.std.proofs.lemmas.Bool.{cond_both}
use Rattle.drawing.specs.Leads.{leads_to}
use Rattle.reasons.specs.Using.{Among}
use Rattle.boxwork.proofs.TightLaws.{InS_range}
use Rattle.boxwork.proofs.Meaning.{leads_InS, InS_leads}
use Rattle.worked.proofs.Computed.{members_from, members_of}

module _ (leads : ℕ → Bool) where
  members_in : (fuel t v : ℕ) → Among v (members_from leads fuel t) → (t ≤ v) × (v < t + fuel) × (leads v ≡ true)
  unfolding members_from
  members_in zero t v = λ h. absurd h
  members_in (suc fuel) t v =
      cond_both (leads t) _ _ (λ (us : List ℕ). Among v us → (t ≤ v) × (v < t + suc fuel) × (leads v ≡ true))
      (λ p. ⊎_elim (λ same. (omega arith, omega arith, ap leads same ∙ p)) (λ h. let r = members_in fuel (t + 1) v h in (omega (arith, r.0), omega (arith, r.1), r.2)))
      (λ p h. let r = members_in fuel (t + 1) v h in (omega (arith, r.0), omega (arith, r.1), r.2))

  in_members : (fuel t v : ℕ) → t ≤ v → v < t + fuel → leads v ≡ true → Among v (members_from leads fuel t)
  unfolding members_from
  in_members zero t v low high h = absurd (omega arith)
  in_members (suc fuel) t v low high h =
      cond_both (leads t) _ _ (Among v)
      (λ p. elim (ℕ_discrete v t) [ yes same ↦ inl same | no other ↦ inr (in_members fuel (t + 1) v (omega arith) (omega arith) h) ])
      (λ p. elim (ℕ_discrete v t) [ yes same ↦ absurd (false≢true (sym p ∙ (ap leads (sym same) ∙ h))) | no other ↦ in_members fuel (t + 1) v (omega arith) (omega arith) h ])

-- S(e) has these nodes, and no other
pub members_are : {n m : ℕ} {R : Rows} → Sound n m R → (e : ℕ) → 1 ≤ e → e ≤ m → (t : ℕ) → InS (network m R) e t ↔ Among t (members_of n m R e)
members_are {n} {m} {R} sound e low high t = (
  (λ i. let r = InS_range sound i in in_members (λ v. leads_to R n m v e) n 1 t r.2 (omega (arith, r.3)) (InS_leads sound t e r.2 r.3 low high i)),
  (λ h. let r = members_in (λ v. leads_to R n m v e) n 1 t h in leads_InS sound t e r.0 (omega (arith, r.1)) low high r.2),
)
