-- The rows with another weight and another closure for an arc are sound too.
use Prim.Native.Nat.{ℕ, ◌-◌, ◌≤◌}
use native.Mathlib.Omega.{arith}
use native.Mathlib.Decide.{ℕ_discrete}
use lib.ListN.{length-set}
use lib.Seq.{get_or-set_same, get_or-set_other}
use Rattle.rules.specs.declared.Asked.{Asked}
use Rattle.walks.specs.Rows.{Rows, Sound, at}
use Rattle.passing.specs.Signs.{Signs}
use Rattle.judging.proofs.StageLaws.{SignsLent, Closures}
use Rattle.boxwork.specs.Says.{changed}

module _ {n m : ℕ} {R : Rows} (sound : Sound n m R) (arc weight closure : ℕ) (low : 1 ≤ arc) (high : arc ≤ m) (light : weight ≤ 1_000_000) where
  weight_light : (e : ℕ) → 1 ≤ e → e ≤ m → at (changed R arc weight closure).weights e ≤ 1_000_000
  weight_light e e-low e-high = elim (ℕ_discrete e arc) [
    | yes same ↦ rw (same, get_or-set_same R.weights (arc - 1) weight 0 (omega (arith, sound.weights_long))) light
    | no other ↦ rw (get_or-set_other R.weights (arc - 1) (e - 1) weight 0 (λ q. other (omega arith))) (sound.arcs e e-low e-high).weight_high
  ]

  pub sound_changed : Sound n m (changed R arc weight closure)
  sound_changed = record {
    nodes_low = sound.nodes_low;
    nodes_high = sound.nodes_high;
    arcs_high = sound.arcs_high;
    tails_long = sound.tails_long;
    heads_long = sound.heads_long;
    weights_long = simp length-set sound.weights_long;
    closures_long = simp length-set sound.closures_long;
    arcs = λ e e-low e-high.
        let a = sound.arcs e e-low e-high in
        record { tail_low = a.tail_low; tail_high = a.tail_high; head_low = a.head_low; head_high = a.head_high; weight_high = weight_light e e-low e-high };
  }

  module _ (good : closure ≤ 1) where
    closures-changed : Closures m R.closures → Closures m (changed R arc weight closure).closures
    closures-changed bytes e e-low e-high = elim (ℕ_discrete e arc) [
      | yes same ↦ rw (same, get_or-set_same R.closures (arc - 1) closure 0 (omega (arith, sound.closures_long))) good
      | no other ↦ rw (get_or-set_other R.closures (arc - 1) (e - 1) closure 0 (λ q. other (omega arith))) (bytes e e-low e-high)
    ]

    pub lent-changed : {asked : Asked} {G : Signs} → SignsLent asked n m R G → SignsLent asked n m (changed R arc weight closure) G
    lent-changed l = record { sound = sound_changed; bytes = closures-changed l.bytes; places = l.places; modules = l.modules }
