-- The loops' steps: what one arc, and one node, adds.
use Prim.Native.Nat.{ℕ, ◌+◌, ◌-◌, ◌*◌, ◌≤◌, ◌<◌}
use mathlib.Core.Path.{◌≡◌, refl, ap, subst, ◌∙◌}
use mathlib.Core.Bool.{Bool, true, false}
use mathlib.Core.List.{List}
use native.Mathlib.Omega.{arith}
use native.Mathlib.Numerals.{add-one}
use lib.ListN.{length, set, get_or}
use Rattle.walks.specs.Rows.{Rows, is_open, turned, Sound}
use Rattle.settling.specs.declared.Labels.{Labels}
use Rattle.settling.specs.Run.{labels_of}
use Rattle.drawing.specs.Leads.{leads_b, leads_at, lengths_to, leads_to, Marked}
use Rattle.drawing.specs.Drawn.{Kind, Row, mark_row, mark_of, Drawn, DrawnIf}
use Rattle.drawing.specs.Gathered.{add_if, gathered, AddedOnce, AddedAll}
use Rattle.drawing.proofs.DrawnLaws.{Puts, puts_single, drawn_old, drawn_next, drawn_stays, drawn_self, drawn_then}

-- the arc at place j is arc j + 1
pub leads_next : (R : Rows) (lengths : List ℕ) (j : ℕ) {t : Bool}
    → leads_b lengths (get_or R.tails j 0) (get_or R.heads j 0) (get_or R.weights j 0) (get_or R.closures j 0) ≡ t
    → leads_at R lengths (j + 1) ≡ t
unfolding leads_at
leads_next R lengths j e = let same : j + 1 - 1 ≡ j = omega arith in rw same e

-- the lengths of the labels from t in the network turned round are those to t
pub lengths_turned : {R Q : Rows} {n m k l : ℕ} (t : ℕ) {L : Labels} → L ≡ labels_of Q (is_open Q.closures) k l t → Q ≡ turned R → k ≡ n → l ≡ m
    → L.length ≡ lengths_to R n m t
unfolding lengths_to
lengths_turned t told rows nodes arcs = rw (told, rows, nodes, arcs) refl

-- its mark, in a row of marks
pub mark-next : (row : List Bool) (j : ℕ) {t : Bool} → get_or row j false ≡ t → mark_of row (j + 1) ≡ t
mark-next row j e = let same : j + 1 - 1 ≡ j = omega arith in rw same e

-- the arc e + 1: it is marked, if it leads
pub mark_turn : (leads : ℕ → Bool) {e : ℕ} {before now : List Bool} {mark : Bool} → Drawn mark_row e (Marked leads) before now → mark ≡ leads (e + 1)
    → e < length before → Drawn mark_row (e + 1) (Marked leads) before (set now e mark)
mark_turn leads {e} {before} {now} {mark} drawn told room =
    let back : e + 1 - 1 ≡ e = omega arith in
    subst (λ (i : ℕ). Drawn mark_row (e + 1) (Marked leads) before (set now i mark)) back (drawn_next (puts_single false) drawn mark (omega arith) told)

-- its entry has a node added, or stays
module _ {K : Kind} {put : Row K → ℕ → K.Entry → Row K} (puts : Puts K put) (leads : ℕ → Bool) (add : K.Entry → K.Entry)
    {e : ℕ} {before now after : Row K} (drawn : Drawn K e (AddedOnce leads add) before now)
  where
    pub add_turn : leads (e + 1) ≡ true → K.places * (e + 1) ≤ length before → after ≡ put now (e + 1) (add (K.entry now (e + 1)))
        → Drawn K (e + 1) (AddedOnce leads add) before after
    unfolding add_if
    add_turn leading room made =
        rw made (drawn_next puts drawn _ room (ap add (drawn_old puts drawn) ∙ rw leading refl))

    pub skip_turn : leads (e + 1) ≡ false → after ≡ now → Drawn K (e + 1) (AddedOnce leads add) before after
    unfolding add_if
    skip_turn other made = rw made (drawn_stays puts drawn (rw other refl))

-- node by node
module _ (K : Kind) (R : Rows) (n m : ℕ) (add : ℕ → K.Entry → K.Entry) where
  gathered_next : (e t : ℕ) (b : K.Entry)
      → add_if (leads_to R n m (t + 1) e) (add (t + 1)) (gathered (λ v. leads_to R n m v e) add t b) ≡ gathered (λ v. leads_to R n m v e) add (t + 1) b
  unfolding gathered
  gathered_next e t b = rw (add-one t) refl

  -- where it is asked, the node t + 1 is added to the entries of the arcs that are marked
  pub none_yet : (asked : Bool) (row : Row K) → DrawnIf asked K m (AddedAll (leads_to R n m) add 0) row row
  unfolding gathered
  none_yet asked row = record { drawn = λ h. drawn_self m row (λ e b. refl); kept = λ h. refl }

  pub node_turn : (t : ℕ) {asked : Bool} {unmarked marked : List Bool} {a b c : Row K} → Drawn mark_row m (Marked (leads_to R n m (t + 1))) unmarked marked
      → DrawnIf asked K m (AddedAll (leads_to R n m) add t) a b → DrawnIf asked K m (AddedOnce (mark_of marked) (add (t + 1))) b c
      → DrawnIf asked K m (AddedAll (leads_to R n m) add (t + 1)) a c
  node_turn t marks p q = record {
    drawn = λ h. drawn_then (λ e low high b d i j. j ∙ rw (i, marks.entries e low high) (gathered_next e t _)) (p.drawn h) (q.drawn h);
    kept = λ h. q.kept h ∙ p.kept h;
  }

-- rows of m arcs hold the first k of them
pub first_arcs : {n m : ℕ} {R : Rows} → Sound n m R → (k : ℕ) → k ≤ m → Sound n k R
first_arcs s k h = record {
  nodes_low = s.nodes_low;
  nodes_high = s.nodes_high;
  arcs_high = omega (arith, s.arcs_high);
  tails_long = omega (arith, s.tails_long);
  heads_long = omega (arith, s.heads_long);
  weights_long = omega (arith, s.weights_long);
  closures_long = omega (arith, s.closures_long);
  arcs = λ e low high. s.arcs e low (omega arith);
}
