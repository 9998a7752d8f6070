-- What `nearest_of` picks is the next node to be settled.
use Prim.Native.Nat.{ℕ, zero, suc, ◌+◌, ◌-◌, ◌<◌, ◌≤◌}
use native.Mathlib.Omega.{arith}
use native.Mathlib.Decide.{dec_lt}
use mathlib.Core.Bool.{Bool, true, false, not, ◌&&◌, false≢true}
use mathlib.Core.Path.{◌≡◌, refl, sym, subst, ap, ◌∙◌}
use mathlib.Core.Logic.{◌⊎◌, inl, inr}
use borrow.Author.Tests.{not-true, eq-eqb, ne_eqb}
use Rattle.walks.specs.Settling.{Next}
use Rattle.walks.proofs.Scanning.{NoneBelow, NextBelow, none_pass, next_pass, none-take, next_keep, next-take, next-found, none_found}
use Rattle.std.specs.Prelude.{Some, None}
use Rattle.settling.specs.declared.Labels.{Labels}
use Rattle.std.proofs.lemmas.Bool.{cases_Bool, cond-true, cond-false, cond_both}
use Rattle.rules.proofs.AndLaws.{and_true, and_yes}
use Rattle.settling.specs.Labels.{none, length_of, arcs_of, settled_of, before}
use Rattle.settling.specs.Nearest.{Leader, better, leader_of, nearest_of}
use Rattle.settling.specs.Seen.{seen}
use Rattle.settling.proofs.Offers.{before_true, before_false}

module _ (L : Labels) (n : ℕ) where
  nearest_none : (leader_of L n).node ≡ 0 → nearest_of L n ≡ None
  unfolding nearest_of
  nearest_none e = cond-true _ _ _ (eq-eqb _ 0 e)

  nearest_some : ((leader_of L n).node ≡ 0 → ⊥) → nearest_of L n ≡ Some (leader_of L n).node
  unfolding nearest_of
  nearest_some e = cond-false _ _ _ (ne_eqb _ 0 e)

module _ (n : ℕ) (L : Labels) where
  -- of the nodes below i, none is left to settle
  record Nobody (i : ℕ) (b : Leader) : Type 0 where
    node : b.node ≡ 0
    length : b.length ≡ none
    arcs : b.arcs ≡ 0
    below : NoneBelow (seen n L) i

  -- of the nodes below i, the leader is the next
  record Leads (i : ℕ) (b : Leader) : Type 0 where
    length : b.length ≡ length_of L b.node
    arcs : b.arcs ≡ arcs_of L b.node
    below : NextBelow (seen n L) i b.node

  -- node i is looked at
  module _ (i : ℕ) (b : Leader) (low : 1 ≤ i) (high : i ≤ n) where
    abbrev passes : Bool
    passes = before (length_of L i) (arcs_of L i) b.length b.arcs

    taken : settled_of L i ≡ false → passes ≡ true → Nobody i b ⊎ Leads i b → NextBelow (seen n L) (suc i) i
    unfolding seen
    taken o p (inl z) =
        let less = before_true (length_of L i) (arcs_of L i) b.length b.arcs p in
        let near : length_of L i < none = elim (dec_lt (length_of L i) none) [ yes h ↦ h | no h ↦ absurd (omega (arith, less.1 (omega arith))) ] in
        none-take (low, high, near) (λ d. false≢true (sym o ∙ d.2)) z.below
    taken o p (inr z) =
        let less = before_true (length_of L i) (arcs_of L i) b.length b.arcs p in
        let known = z.below.labelled in
        next-take (low, high, omega arith) (λ d. false≢true (sym o ∙ d.2)) (omega arith, λ q. omega (arith, less.1 (omega arith))) z.below

    -- settled, or not before the leader
    passed : (settled_of L i ≡ false → passes ≡ false) → Nobody i b ⊎ Leads i b → Nobody (suc i) b ⊎ Leads (suc i) b
    unfolding seen
    passed h (inl z) =
        inl (record {
          node = z.node;
          length = z.length;
          arcs = z.arcs;
          below = none_pass (λ known free. elim (cases_Bool (settled_of L i)) [
            | inl d ↦ free (low, high, d)
            | inr d ↦ omega (arith, known.2, before_false (length_of L i) (arcs_of L i) b.length b.arcs (h d))
          ]) z.below;
        })
    passed h (inr z) =
        inr (record {
          length = z.length;
          arcs = z.arcs;
          below = elim (cases_Bool (settled_of L i)) [
            | inl d ↦ next_pass (λ known free. free (low, high, d)) z.below
            | inr d ↦
                let after = before_false (length_of L i) (arcs_of L i) b.length b.arcs (h d) in
                next_keep (omega arith, λ q. omega (arith, after.1 (omega arith))) z.below
          ];
        })

    looked : Nobody i b ⊎ Leads i b → Nobody (suc i) (better L (i - 1) b) ⊎ Leads (suc i) (better L (i - 1) b)
    unfolding better
    looked z =
        let back : i - 1 + 1 ≡ i = omega arith in
        cond_both (not (settled_of L i) && passes) _ b (λ (x : Leader). Nobody (suc i) x ⊎ Leads (suc i) x)
        (λ t.
        let y = and_true (not (settled_of L i)) passes t in
        inr (record {
          length = ap (length_of L) (sym back);
          arcs = ap (arcs_of L) (sym back);
          below = rw back (taken (not-true _ y.0) y.1 z);
        }))
        (λ t. passed (λ o. sym (and_yes (ap not o) refl) ∙ t) z)

  leads : (v : ℕ) → v ≤ n → Nobody (suc v) (leader_of L v) ⊎ Leads (suc v) (leader_of L v)
  unfolding leader_of seen
  leads zero h = inl (record { node = refl; length = refl; arcs = refl; below = record { none = λ v below known. absurd (omega (arith, known.0)) } })
  leads (suc v) h =
      let p : suc v - 1 ≡ v = omega arith in
      let b = leader_of L v in
      subst (λ (x : ℕ). Nobody (suc (suc v)) (better L x b) ⊎ Leads (suc (suc v)) (better L x b)) p (looked (suc v) b (omega arith) h (leads v (omega arith)))

  numbered : (v : ℕ) → (seen n L).Labelled v → 1 ≤ v
  unfolding seen
  numbered v known = known.0

  nodes : (v : ℕ) → (seen n L).Labelled v → v ≤ n
  unfolding seen
  nodes v known = known.1

  pub nearest_next : {u : ℕ} → nearest_of L n ≡ Some u → Next (seen n L) u
  nearest_next {u} e = elim (leads n (omega arith)) [
    | inl z ↦
        let q = nearest_none L n z.node in
        let y : ◌≡◌ {A = ℕ} 0 1 = cc in
        absurd (omega arith)
    | inr z ↦
        let q = nearest_some L n (λ h. omega (arith, numbered _ z.below.labelled)) in
        let y : (leader_of L n).node ≡ u = cc in
        rw (← y) (next-found nodes z.below)
  ]

  pub nearest_left : nearest_of L n ≡ None → (v : ℕ) → (seen n L).Labelled v → ¬ ¬ (seen n L).Settled v
  nearest_left e = elim (leads n (omega arith)) [
    | inl z ↦ none_found nodes z.below
    | inr z ↦
        let q = nearest_some L n (λ h. omega (arith, numbered _ z.below.labelled)) in
        let y : ◌≡◌ {A = ℕ} 0 1 = cc in
        absurd (omega arith)
  ]
