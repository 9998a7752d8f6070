-- Where a run stands: at the start, after each node that it settles, and at its end.
use Prim.Native.Nat.{ℕ, ◌+◌, ◌-◌, ◌<◌, ◌≤◌}
use native.Mathlib.Omega.{arith}
use native.Mathlib.Decide.{dec_lt}
use mathlib.Core.Bool.{true, false}
use mathlib.Core.Path.{◌≡◌, refl, sym, ◌∙◌}
use mathlib.Core.List.{List}
use lib.ListN.{get_or, replicate}
use Rattle.std.specs.Prelude.{Option, Some, None}
use Rattle.walks.specs.Judged.{rows_in}
use Rattle.walks.proofs.Limits.{count_room}
use Rattle.frontier.specs.Tree.{key_of, far, pick_of, Rekeyed}
use Rattle.settling.specs.declared.Labels.{Labels}
use Rattle.settling.specs.declared.task.Task.{Task}
use Rattle.settling.specs.Labels.{arcs_of, start_of}
use Rattle.settling.specs.Settle.{settle_of}
use Rattle.settling.specs.Nearest.{nearest_of}
use Rattle.settling.specs.Seen.{seen}
use Rattle.settling.specs.Stage.{Stage, Ready}
use Rattle.settling.specs.Front.{Become}
use Rattle.settling.specs.Step.{keeps_of, outcome_of, Stands}
use Rattle.settling.proofs.RunSteps.{run_over, run_stuck, run_found, run_on}
use Rattle.settling.proofs.NearestIsNext.{nearest_next}
use Rattle.settling.proofs.RunEnds.{ready, stage_start, stage_on}
use Rattle.settling.proofs.TreeFollows.{front_start}
use Rattle.settling.proofs.LeastKeyIsNearest.{pick_nearest}

pub stands_start : {a : Task} {tree : List ℕ} (x : ℕ) → Rekeyed (replicate 1_024 far) (a.s - 1) x tree
    → x ≡ key_of 0 0 (a.s - 1) → {L : Labels} → L ≡ start_of a.s → Stands a 0 L tree
stands_start {a} x r e q =
    let sound = a.tracks.sound in
    let low = a.source.0 in
    let stage : Stage (rows_in a.tracks) (keeps_of a) a.tracks.n a.tracks.m a.s 0 (start_of a.s) = stage_start sound low a.source.1 in
    rw q (record {
      high = omega arith;
      stage = stage;
      front = front_start a.s low (omega (arith, a.source.1, sound.nodes_high)) x r e stage.full.sized;
      rest = λ fuel h. let z : fuel ≡ a.tracks.n = omega arith in rw z refl;
    })

-- the tree tells the next node
module _ {a : Task} {count : ℕ} {L : Labels} {tree : List ℕ} (here : Stands a count L tree) where
  few : (v : ℕ) → (seen a.tracks.n L).Labelled v → arcs_of L v ≤ 512
  unfolding seen
  few v known = omega (arith, here.stage.progress.few v known, here.high, a.tracks.sound.nodes_high)

  picked : {p : Option ℕ} → p ≡ pick_of (get_or tree 1 0) → nearest_of L a.tracks.n ≡ p
  picked told = sym (told ∙ pick_nearest a.tracks.sound.nodes_high here.front here.stage.full few)

  -- none is left, and the run is over
  pub stands_stuck : None ≡ pick_of (get_or tree 1 0) → record { labels = L; count = count; found = false } ≡ outcome_of a
  stands_stuck told = elim (dec_lt count a.tracks.n) [
    | yes h ↦ let f = a.tracks.n - (count + 1) in sym (run_stuck _ _ _ _ _ count L f (picked told)) ∙ here.rest (f + 1) (omega arith)
    | no h ↦ sym (run_over _ _ _ _ _ count L) ∙ here.rest 0 (omega (arith, here.high))
  ]

  module _ {u : ℕ} (told : Some u ≡ pick_of (get_or tree 1 0)) where
    pub stands_ready : Ready a.tracks.n L u
    stands_ready = ready a.tracks.sound here.stage (picked told)

    pub stands_below : count < a.tracks.n
    stands_below = let next = nearest_next a.tracks.n L (picked told) in count_room u stands_ready.low stands_ready.high next.unsettled here.stage.progress.count

    -- the next is the target, and the run is over
    pub stands_found : u ≡ a.t → record { labels = L; count = count + 1; found = true } ≡ outcome_of a
    stands_found q =
        let h = stands_below in
        let f = a.tracks.n - (count + 1) in
        sym (run_found _ _ _ _ _ count L f u (picked told) q) ∙ here.rest (f + 1) (omega arith)

    -- the next is another node, which is settled
    pub stands_on : (u ≡ a.t → ⊥) → {L' : Labels} {tree' : List ℕ} → Become (settle_of (rows_in a.tracks) (keeps_of a) a.tracks.m L u) L' tree' → Stands a (count + 1) L' tree'
    stands_on q b = record {
      high = omega (arith, stands_below);
      stage = rw b.same (stage_on a.tracks.sound here.stage (picked told));
      front = b.front;
      rest = λ fuel h.
          rw b.same (sym (run_on _ _ _ _ _ count L fuel u (picked told) q) ∙ here.rest (fuel + 1) (omega arith));
    }
