-- What a search by labels answers is what 01 defines: for any test `keep` of arcs, in the network of only those arcs that pass it.
use Prim.Native.Nat.{ℕ, ◌<◌, ◌≤◌}
use native.Mathlib.Omega.{arith}
use native.Mathlib.Numerals.{add-one}
use native.Mathlib.Decide.{dec_lt}
use mathlib.Core.Bool.{Bool, true, false, true≢false, false≢true}
use mathlib.Core.Path.{◌≡◌, refl}
use mathlib.Core.Logic.{inr}
use mathlib.Core.List.{List, ◌++◌}
use lib.ListN.{length, drop}
use Rattle.walks.specs.Walk.{Net, kept}
use Rattle.walks.specs.Rows.{Rows, laid, is_open, network, Sound}
use Rattle.walks.specs.Least.{Reached, Dist, Best}
use Rattle.walks.proofs.LeastLaws.{best_dist, dist_unique}
use Rattle.walks.specs.Search.{Found, NoWalk}
use Rattle.walks.proofs.SettlingLaws.{settled_best, next_best, found_count, missed_count, reached_settled}
use Rattle.settling.specs.declared.Outcome.{Outcome}
use Rattle.settling.specs.Labels.{none, length_of, arcs_of}
use Rattle.settling.specs.Run.{search_of, labels_of}
use Rattle.settling.specs.Trace.{trace_of}
use Rattle.settling.specs.Seen.{seen}
use Rattle.settling.proofs.StageKept.{next_near}
use Rattle.settling.proofs.RunEnds.{Ends, finds, misses, search_ends}
use Rattle.settling.proofs.TraceIsRoute.{traced}

-- The target is found: the labels, the count and the row that the trace writes are those of the reply
pub record Answers (R : Rows) (keep : ℕ → Bool) (n m s t : ℕ) (o : Outcome) (row : List ℕ) : Type 0 where
  pub arcs : List ℕ
  pub found : Found (kept keep (laid m R)) n s t (length_of o.labels t) (arcs_of o.labels t) o.count arcs
  pub count : length arcs ≡ arcs_of o.labels t
  pub few : arcs_of o.labels t < n
  pub near : length_of o.labels t ≤ 511_000_000
  pub written : trace_of R keep m o.labels (arcs_of o.labels t) t row ≡ arcs ++ drop (length arcs) row

-- The label (l, k) of node v in a search from s to all nodes: its best walk's, or the mark of no label where no walk leads to v
pub data Label (N : Net) (s v l k : ℕ) : Type 0 where
  best : l ≤ 511_000_000 → Best N s v l k → Label N s v l k
  absent : l ≡ none → ¬ Reached N s v → Label N s v l k

module _ {R : Rows} {n m : ℕ} (sound : Sound n m R) {keep : ℕ → Bool} {s : ℕ} where
  answers : {t : ℕ} {o : Outcome} → Ends R keep n m s t o → o.found ≡ true → (row : List ℕ) → n ≤ length row → Answers R keep n m s t o row
  unfolding seen
  answers {t} (finds {c = c} {L = L} stage next) e row long =
      let near = next_near sound stage next in
      let r = traced sound stage next (arcs_of L t) t row (inr refl) (omega arith) refl (omega arith) in
      record {
        arcs = r.arcs;
        found = record {
          best = next_best stage.progress t next;
          settled = rw (add-one c) (found_count stage.progress t next);
          route = r.route;
        };
        count = r.count;
        few = near.0;
        near = near.1;
        written = rw r.count r.written;
      }
  answers (misses stage out left) e row long = absurd (false≢true e)

  missed : {t : ℕ} {o : Outcome} → Ends R keep n m s t o → o.found ≡ false → NoWalk (kept keep (laid m R)) n s t o.count
  missed (finds stage next) e = absurd (true≢false e)
  missed {t} (misses stage out left) e = record {
    none = λ r. out (reached_settled stage.progress left t r);
    settled = missed_count stage.progress left t out;
  }

  limit : {t d : ℕ} {o : Outcome} → Ends R keep n m s t o → Dist (kept keep (laid m R)) s t d → d ≤ 511_000_000
  unfolding seen
  limit {t} (finds stage next) x =
      let near = next_near sound stage next in
      omega (arith, dist_unique x (best_dist (next_best stage.progress t next)))
  limit {t} (misses stage out left) x = absurd (out (reached_settled stage.progress left t (record { length = _; count = _; walk = x.walk })))

  module _ (low : 1 ≤ s) (high : s ≤ n) where
    pub search_found : (t : ℕ) → (search_of R keep n m t s).found ≡ true → (row : List ℕ) → n ≤ length row → Answers R keep n m s t (search_of R keep n m t s) row
    search_found t e row long = answers (search_ends sound low high) e row long

    pub search_missed : (t : ℕ) → (search_of R keep n m t s).found ≡ false → NoWalk (kept keep (laid m R)) n s t (search_of R keep n m t s).count
    search_missed t e = missed (search_ends sound low high) e

    -- no shortest length by arcs that are kept exceeds 511,000,000
    pub kept_limit : {t d : ℕ} → Dist (kept keep (laid m R)) s t d → d ≤ 511_000_000
    kept_limit {t} x = limit (search_ends sound {t = t} low high) x

    label : {o : Outcome} → Ends R keep n m s 0 o → (v : ℕ) → 1 ≤ v → v ≤ n → Label (kept keep (laid m R)) s v (length_of o.labels v) (arcs_of o.labels v)
    unfolding seen
    label (finds stage next) v v_low v_high = absurd (omega (arith, next.labelled.0))
    label (misses {L = L} stage out left) v v_low v_high = elim (dec_lt (length_of L v) none) [
      | yes near ↦ elim (stage.progress.either v) [
        | yes d ↦ let b = settled_best stage.progress v d in best (kept_limit (best_dist b)) b
        | no d ↦ absurd (left v (v_low, v_high, near) d)
      ]
      | no far ↦
          absent (omega (arith, stage.full.most v v_low (omega (arith, sound.nodes_high)))) (λ r.
          far (stage.progress.settled_labelled v (reached_settled stage.progress left v r)).2)
    ]

    -- every node's label in a search to all nodes
    pub all_labels : (v : ℕ) → 1 ≤ v → v ≤ n → Label (kept keep (laid m R)) s v (length_of (labels_of R keep n m s) v) (arcs_of (labels_of R keep n m s) v)
    all_labels v v_low v_high = label (search_ends sound low high) v v_low v_high

-- nor does one by all open arcs
pub length_limit : {R : Rows} {n m s t d : ℕ} → Sound n m R → 1 ≤ s → s ≤ n → Dist (network m R) s t d → d ≤ 511_000_000
unfolding network
length_limit {R} sound low high x = kept_limit sound {keep = is_open R.closures} low high x
