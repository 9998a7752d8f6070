-- What the loops of `drawing` leave is what the statements say: tight and updated boxes, masks, and the first missed node.
use Prim.Native.Nat.{ℕ, ◌≤◌}
use mathlib.Core.Path.{◌≡◌, refl, sym, ap, ◌∙◌}
use mathlib.Core.Logic.{◌⊎◌, inl, inr, ⊎_elim}
use mathlib.Core.Bool.{Bool, true, false, not, false≢true}
use mathlib.Core.List.{List, []}
use native.Mathlib.Omega.{arith}
use native.Mathlib.Decide.{dec_le}
use borrow.Author.Tests.{not-true}
use lib.IntN.{ℤ}
use Rattle.rules.specs.Paper.{accepted}
use Rattle.rules.specs.declared.Asked.{Asked}
use Rattle.rules.specs.Judging.{fine}
use Rattle.walks.specs.Rows.{Rows, Sound, is_open, network}
use Rattle.walks.specs.Through.{InS, Consistent}
use Rattle.walks.specs.Checking.{Misses, FirstMissed}
use Rattle.std.proofs.lemmas.Bool.{cases_Bool}
use Rattle.rules.proofs.AndLaws.{and_true, and_yes}
use Rattle.settling.proofs.LengthsAndS.{test_InS, InS_test}
use Rattle.geometry.specs.Box.{Box, Holds, mark, WellShaped, nothing, Smallest}
use Rattle.geometry.specs.Row.{Shaped}
use Rattle.geometry.proofs.SmallestLaws.{smallest_same, smallest_self}
use Rattle.geometry.proofs.MarkLaws.{none_smallest}
use Rattle.drawing.specs.Leads.{leads_at, lengths_to, leads_to}
use Rattle.drawing.specs.Drawn.{Drawn, DrawnIf, box_row, mask_row}
use Rattle.drawing.specs.Gathered.{add_place, add_module, gathered, Emptied, AddedAll}
use Rattle.drawing.specs.Missed.{misses_node, Lowest}
use Rattle.drawing.proofs.GatheredLaws.{Led, PlacesIn, grown_by, ModulesIn, lighted_by}
use Rattle.drawing.proofs.DrawnLaws.{drawn_then}
use Rattle.passing.specs.Signs.{Signs, boxes_alone, box_signs}
use Rattle.passing.specs.Passing.{Keeps}
use Rattle.passing.specs.Asking.{tests_toward, keeps}
use Rattle.passing.proofs.PassingLaws.{passes-keeps, keeps-passes}
use Rattle.judging.specs.Order.{update_judged}
use Rattle.boxwork.specs.Says.{Updates, UpdateSays, changed}
use Rattle.judging.proofs.FineLaws.{check_fine, update_fine}
use Rattle.boxwork.proofs.ChangedLaws.{sound_changed}
use Rattle.boxwork.proofs.TightLaws.{InS_range}
use Rattle.boxwork.specs.Tight.{PlaceIn, Tight, Updated}
use Rattle.boxwork.specs.Masks.{MaskOf}

-- what holds the places T and encloses t, their smallest box, is the same
with_smallest : {P T : ℤ → ℤ → Type 0} {t b : Box} → Smallest T t → Smallest (λ px py. P px py ⊎ T px py) b → Smallest (λ px py. P px py ⊎ Holds t px py) b
with_smallest s h = record {
  holds = λ px py. ⊎_elim (λ p. h.holds px py (inl p)) (λ q. s.least _ (λ u v k. h.holds u v (inr k)) px py q);
  least = λ c k. h.least c (λ px py. ⊎_elim (λ p. k px py (inl p)) (λ q. k px py (inr (s.holds px py q))));
}

module _ {n m : ℕ} {R : Rows} (sound : Sound n m R) where
  -- ---- S(e) by the lengths

  pub leads_InS : (t e : ℕ) → 1 ≤ t → t ≤ n → 1 ≤ e → e ≤ m → leads_to R n m t e ≡ true → InS (network m R) e t
  unfolding leads_at lengths_to
  leads_InS t e a b c d p = test_InS sound a b e c d p

  pub InS_leads : (t e : ℕ) → 1 ≤ t → t ≤ n → 1 ≤ e → e ≤ m → InS (network m R) e t → leads_to R n m t e ≡ true
  unfolding leads_at lengths_to
  InS_leads t e a b c d i = InS_test sound a b e c d i

  -- ---- Boxes

  module _ (x y : List ℤ) (places : PlacesIn x y n) where
    module _ (e : ℕ) (low : 1 ≤ e) (high : e ≤ m) where
      led_place : {px py : ℤ} → Led (λ t. leads_to R n m t e) x y n px py → PlaceIn x y (InS (network m R) e) px py
      led_place h = record { node = h.node; member = leads_InS h.node e h.low h.high low high h.leading; place = h.place }

      place_led : {px py : ℤ} → PlaceIn x y (InS (network m R) e) px py → Led (λ t. leads_to R n m t e) x y n px py
      place_led s =
          let r = InS_range sound s.member in
          record { node = s.node; low = r.2; high = r.3; leading = InS_leads s.node e r.2 r.3 low high s.member; place = s.place }

      -- the mark grown by the nodes of S(e), and an old box grown by them
      pub tight_made : Tight (network m R) x y e (gathered (λ t. leads_to R n m t e) (add_place x y) n mark)
      tight_made =
          let made = grown_by (λ t. leads_to R n m t e) x y (nothing refl) (none_smallest {P = λ px py. ⊥} (λ px py h. h)) n places in
          record { smallest = smallest_same (λ px py. ⊎_elim (λ h. absurd h) led_place) (λ px py s. inr (place_led s)) made.1; shaped = made.0 }

      pub updated_made : {old : Box} → WellShaped old → Updated (network m R) x y e old (gathered (λ t. leads_to R n m t e) (add_place x y) n old)
      updated_made {old} shaped =
          let made = grown_by (λ t. leads_to R n m t e) x y shaped (smallest_self old) n places in
          record {
            tight = _;
            is_tight = tight_made;
            smallest = with_smallest tight_made.smallest (smallest_same
                (λ px py. ⊎_elim inl (λ h. inr (led_place h)))
                (λ px py. ⊎_elim inl (λ h. inr (place_led h)))
                made.1);
            shaped = made.0;
          }

    boxes_made : {before mid after : List ℤ} → Drawn box_row m (Emptied mark) before mid → Drawn box_row m (AddedAll (leads_to R n m) (add_place x y) n) mid after
        → Drawn box_row m (λ e old new. Tight (network m R) x y e new) before after
    boxes_made = drawn_then {Is = Emptied mark} {Js = AddedAll (leads_to R n m) (add_place x y) n} (λ e low high p q i j. rw (j, i) (tight_made e low high))

    pub updated_by : {before after : List ℤ} → Shaped m before → Drawn box_row m (AddedAll (leads_to R n m) (add_place x y) n) before after
        → Drawn box_row m (Updated (network m R) x y) before after
    updated_by shaped grown = record {
      entries = λ e low high. rw (grown.entries e low high) (updated_made e low high (shaped.each e low high));
      rest = grown.rest;
      long = grown.long;
    }

  -- ---- Masks

  module _ (modules : List ℕ) (numbers : ModulesIn modules n) where
    mask_made : (e : ℕ) → 1 ≤ e → e ≤ m → MaskOf (network m R) modules e (gathered (λ t. leads_to R n m t e) (add_module modules) n 0)
    mask_made e low high =
        let made = lighted_by (λ t. leads_to R n m t e) modules n numbers in
        record {
          small = made.0;
          exactly = λ j. (
            (λ h. let k = (made.1 j).0 h in record { node = k.node; member = leads_InS k.node e k.low k.high low high k.leading; inside = k.inside }),
            (λ h.
                let r = InS_range sound h.member in
                (made.1 j).1 (record { node = h.node; low = r.2; high = r.3; leading = InS_leads h.node e r.2 r.3 low high h.member; inside = h.inside })),
          );
        }

    masks_made : {before mid after : List ℕ} → Drawn mask_row m (Emptied 0) before mid → Drawn mask_row m (AddedAll (leads_to R n m) (add_module modules) n) mid after
        → Drawn mask_row m (λ e old new. MaskOf (network m R) modules e new) before after
    masks_made = drawn_then {Is = Emptied 0} {Js = AddedAll (leads_to R n m) (add_module modules) n} (λ e low high p q i j. rw (j, i) (mask_made e low high))

  -- ---- What a build leaves, where it is asked

  pub boxes_built_lem : {asked : Bool} {x y : List ℤ} {before mid after : List ℤ} → (asked ≡ true → PlacesIn x y n)
      → DrawnIf asked box_row m (Emptied mark) before mid → DrawnIf asked box_row m (AddedAll (leads_to R n m) (add_place x y) n) mid after
      → DrawnIf asked box_row m (λ e old new. Tight (network m R) x y e new) before after
  boxes_built_lem {x = x} {y = y} places p q = record { drawn = λ h. boxes_made x y (places h) (p.drawn h) (q.drawn h); kept = λ h. q.kept h ∙ p.kept h }

  pub masks_built_lem : {asked : Bool} {modules before mid after : List ℕ} → (asked ≡ true → ModulesIn modules n)
      → DrawnIf asked mask_row m (Emptied 0) before mid → DrawnIf asked mask_row m (AddedAll (leads_to R n m) (add_module modules) n) mid after
      → DrawnIf asked mask_row m (λ e old new. MaskOf (network m R) modules e new) before after
  masks_built_lem {modules = modules} numbers p q = record { drawn = λ h. masks_made modules (numbers h) (p.drawn h) (q.drawn h); kept = λ h. q.kept h ∙ p.kept h }

  -- ---- The first missed node

  module _ (asked : Asked) (G : Signs) (numbers : asked.masks ≡ true → ModulesIn G.modules n) where
    abbrev Passed : ℕ → ℕ → Bool
    Passed e t = keeps (tests_toward asked G.x G.y G.modules t) R.closures G.boxes G.masks e

    unlocked : {e t : ℕ} → InS (network m R) e t → is_open R.closures e ≡ true
    unfolding network
    unlocked i = i.arc.1

    missed_yes : (t e : ℕ) → 1 ≤ t → t ≤ n → 1 ≤ e → e ≤ m → misses_node R n m asked G t e ≡ true → Misses (network m R) (Keeps asked G) e t
    unfolding misses_node
    missed_yes t e a b c d p =
        let q = and_true (leads_to R n m t e) (not (Passed e t)) p in
        let i = leads_InS t e a b c d q.0 in
        record { member = i; refused = λ h. false≢true (sym (not-true (Passed e t) q.1) ∙ keeps-passes asked G e t R.closures h (unlocked i)) }

    missed_no : (t e : ℕ) → misses_node R n m asked G t e ≡ false → InS (network m R) e t → Keeps asked G e t
    unfolding misses_node
    missed_no t e p i =
        let r = InS_range sound i in
        ⊎_elim (λ h. (passes-keeps asked G e t R.closures (λ k. (numbers k t r.2 r.3).0) h).0)
        (λ h. absurd (false≢true (sym p ∙ and_yes (InS_leads t e r.2 r.3 r.0 r.1 i) (ap not h))))
        (cases_Bool (Passed e t))

    pub missed_first : {e t : ℕ} → Lowest (misses_node R n m asked G) n m e t → FirstMissed (network m R) (Keeps asked G) e t
    missed_first {e} {t} l = record {
      misses = missed_yes t e l.node_low l.node_high l.arc_low l.arc_high l.passes;
      lowest_arc = λ i j h.
          let r = InS_range sound h.member in
          elim (dec_le e i) [ yes q ↦ q | no q ↦ absurd (h.refused (missed_no j i (l.arc_first j i r.2 r.3 r.0 (omega arith)) h.member)) ];
      lowest_node = λ j h.
          let r = InS_range sound h.member in
          elim (dec_le t j) [ yes q ↦ q | no q ↦ absurd (h.refused (missed_no j e (l.node_first j r.2 (omega arith)) h.member)) ];
    }

    pub missed_none : ((t e : ℕ) → 1 ≤ t → t ≤ n → 1 ≤ e → e ≤ m → misses_node R n m asked G t e ≡ false) → Consistent (network m R) (Keeps asked G)
    missed_none h = record { keeps = λ e t i. let r = InS_range sound i in missed_no t e (h t e r.2 r.3 r.0 r.1) i }

-- an update that was judged fine, wrote weight and closure, and grew the boxes
pub updated_says : (n : ℕ) {m : ℕ} (R : Rows) {R' : Rows} {x y before after : List ℤ} (arc weight closure : ℕ)
    → update_judged boxes_alone n m R (box_signs x y before) arc weight closure ≡ fine → R' ≡ changed R arc weight closure
    → Drawn box_row m (AddedAll (leads_to R' n m) (add_place x y) n) before after
    → UpdateSays n m R x y before arc weight closure (accepted []) R' after
updated_says n {m} R {x = x} {y = y} {before = before} arc weight closure passed wrote all =
    let u = update_fine boxes_alone n m R (box_signs x y before) arc weight closure passed in
    let k = check_fine boxes_alone n m R (box_signs x y before) u.0 in
    let sound = sound_changed k.lent.sound arc weight closure u.1 u.2 u.3 in
    rw wrote (Updates.updated passed (updated_by sound x y (k.lent.places refl).places (k.shaped refl) (rw wrote at all)))
