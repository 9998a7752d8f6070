-- Surplus is neither read nor written: build, check and update are those over the rows cut to the places that are needed, and the
-- places beyond keep their contents.
use Prim.Native.Nat.{ℕ, zero, suc, ◌+◌, ◌-◌, ◌*◌, ◌<◌, ◌≤◌, min}
use mathlib.Core.Path.{◌≡◌, refl, sym, ap, ◌∙◌, subst}
use mathlib.Core.Bool.{Bool}
use mathlib.Core.Logic.{inl, inr}
use mathlib.Core.List.{List, [], ◌∷◌}
use native.Mathlib.Omega.{arith}
use lib.IntN.{ℤ}
use lib.ListN.{length, get_or, take, drop, length-take, length-drop}
use lib.Seq.{get_or-take, get_or-drop, ext_get_or, take-set-lt, drop-set-lt}
use Rattle.rules.specs.Paper.{Reply}
use Rattle.rules.specs.declared.Asked.{Asked}
use Rattle.walks.specs.Rows.{Rows, Sound, network}
use Rattle.walks.specs.Through.{InS, Consistent}
use Rattle.walks.specs.Checking.{Misses, FirstMissed}
use Rattle.geometry.specs.Box.{Box}
use Rattle.walks.proofs.Alike.{other_way, InS_alike}
use Rattle.std.proofs.lemmas.Bool.{cases_Bool}
use Rattle.passing.specs.Signs.{Signs, boxes_alone, box_signs}
use Rattle.passing.specs.Passing.{Keeps}
use Rattle.judging.specs.Order.{update_judged}
use Rattle.judging.specs.Cut.{cut, cut_signs}
use Rattle.judging.proofs.CutLaws.{at_cut, place-cut, box-cut, build_judged_cut, check_judged_cut, update_judged_cut}
use Rattle.search.proofs.Cut.{network-cut}
use Rattle.drawing.specs.Drawn.{Kind, Row, Drawn, DrawnIf, box_row, mask_row}
use Rattle.boxwork.specs.Tight.{PlaceOf, Tight, Updated}
use Rattle.boxwork.specs.Masks.{MaskOf}
use Rattle.boxwork.proofs.TightLaws.{InS_range, around_same}
use Rattle.judging.proofs.FineLaws.{build_fine, check_fine, update_fine}
use Rattle.boxwork.proofs.ChangedLaws.{sound_changed}
use Rattle.boxwork.specs.Says.{Builds, Checks, Updates, BuildBy, CheckBy, UpdateSays, boxes_of, masks_of, changed}
use Rattle.boxwork.proofs.SaysLaws.{build_unique, check_unique, update_unique}

-- ---- A row with an entry for each arc

-- two rows whose places from k on agree have the same rest
drop_same : {A : Type 0} (none : A) (k : ℕ) (a b : List A) → length a ≡ length b → ((i : ℕ) → k ≤ i → get_or a i none ≡ get_or b i none) → drop k a ≡ drop k b
drop_same none k a b long h =
    ext_get_or none (drop k a) (drop k b) (simp length-drop (ap (λ (l : ℕ). l - k) long)) (λ i l. get_or-drop k a i none ∙ (h (k + i) (omega arith) ∙ sym (get_or-drop k b i none)))

-- past the places that are kept, a row that is cut has nothing
past_cut : {A : Type 0} (none : A) (k : ℕ) (row : List A) (i : ℕ) → k ≤ i → get_or (take k row) i none ≡ none
past_cut none zero row i h = refl
past_cut none (suc k) [] i h = refl
past_cut none (suc k) (z ∷ row) zero h = absurd (omega arith)
past_cut none (suc k) (z ∷ row) (suc i) h = past_cut none k row i (omega arith)

-- the entries of a row that is cut are those of the row
abbrev EntryCut : Kind → ℕ → Type 0
EntryCut K m = (row : Row K) (e : ℕ) → 1 ≤ e → e ≤ m → K.entry (take (K.places * m) row) e ≡ K.entry row e

boxes_cut : (m : ℕ) → EntryCut box_row m
boxes_cut m row e low high = box-cut m row e low high

masks_cut : (m : ℕ) → EntryCut mask_row m
masks_cut m row e low high = get_or-take (1 * m) row (e - 1) 0 (omega arith)

module _ {K : Kind} {m : ℕ} (same : EntryCut K m) {Is Js : ℕ → K.Entry → K.Entry → Type 0} {before after : Row K} where
  drawn_cut : ((e : ℕ) → 1 ≤ e → e ≤ m → Is e (K.entry before e) (K.entry after e) → Js e (K.entry before e) (K.entry after e))
      → Drawn K m Is before after
      → Drawn K m Js (take (K.places * m) before) (take (K.places * m) after) × (drop (K.places * m) after ≡ drop (K.places * m) before)
  drawn_cut h d = (
    record {
      entries = λ e low high.
          subst (λ (b : K.Entry). Js e b (K.entry (take (K.places * m) after) e)) (sym (same before e low high))
          (subst (Js e (K.entry before e)) (sym (same after e low high)) (h e low high (d.entries e low high)));
      rest = λ i h. past_cut K.none (K.places * m) after i h ∙ sym (past_cut K.none (K.places * m) before i h);
      long = length-take (K.places * m) after ∙ (ap (λ (l : ℕ). min (K.places * m) l) d.long ∙ sym (length-take (K.places * m) before));
    },
    drop_same K.none (K.places * m) after before d.long d.rest,
  )

  if_cut : {asked : Bool} → ((e : ℕ) → 1 ≤ e → e ≤ m → Is e (K.entry before e) (K.entry after e) → Js e (K.entry before e) (K.entry after e))
      → DrawnIf asked K m Is before after
      → DrawnIf asked K m Js (take (K.places * m) before) (take (K.places * m) after) × (drop (K.places * m) after ≡ drop (K.places * m) before)
  if_cut {asked} h d = (
    record { drawn = λ x. (drawn_cut h (d.drawn x)).0; kept = λ x. ap (take (K.places * m)) (d.kept x) },
    elim (cases_Bool asked) [ inl x ↦ (drawn_cut h (d.drawn x)).1 | inr x ↦ ap (drop (K.places * m)) (d.kept x) ],
  )

-- ---- Boxes and masks, and what they keep

module _ {n m : ℕ} {R : Rows} (sound : Sound n m R) (x y : List ℤ) where
  place_there : (node : ℕ) → 1 ≤ node → node ≤ n → {px py : ℤ} → PlaceOf x y node px py → PlaceOf (take n x) (take n y) node px py
  place_there node low high p = (p.0 ∙ sym (place-cut n x node low high), p.1 ∙ sym (place-cut n y node low high))

  place_back : (node : ℕ) → 1 ≤ node → node ≤ n → {px py : ℤ} → PlaceOf (take n x) (take n y) node px py → PlaceOf x y node px py
  place_back node low high p = (p.0 ∙ place-cut n x node low high, p.1 ∙ place-cut n y node low high)

  InS_back : {e t : ℕ} → InS (network m (cut m R)) e t → InS (network m R) e t
  InS_back i = InS_alike (other_way (network-cut m R)) i

  module _ {e : ℕ} where
    pub tight_cut : {b : Box} → Tight (network m R) x y e b → Tight (network m (cut m R)) (take n x) (take n y) e b
    tight_cut p =
        around_same
        (λ px py s.
        let r = InS_range sound s.member in
        record { node = s.node; member = InS_alike (network-cut m R) s.member; place = place_there s.node r.2 r.3 s.place })
        (λ px py s.
        let i = InS_back s.member in
        let r = InS_range sound i in
        record { node = s.node; member = i; place = place_back s.node r.2 r.3 s.place })
        p

    pub updated_cut : {old new : Box} → Updated (network m R) x y e old new → Updated (network m (cut m R)) (take n x) (take n y) e old new
    updated_cut p = record { tight = p.tight; is_tight = tight_cut p.is_tight; smallest = p.smallest; shaped = p.shaped }

    mask_cut : {modules : List ℕ} {mask : ℕ} → MaskOf (network m R) modules e mask → MaskOf (network m (cut m R)) (take n modules) e mask
    mask_cut {modules} p = record {
      small = p.small;
      exactly = λ j. (
        (λ h.
            let k = (p.exactly j).0 h in
            let r = InS_range sound k.member in
            record { node = k.node; member = InS_alike (network-cut m R) k.member; inside = at_cut n modules k.node r.2 r.3 ∙ k.inside }),
        (λ h.
            let i = InS_back h.member in
            let r = InS_range sound i in
            (p.exactly j).1 (record { node = h.node; member = i; inside = sym (at_cut n modules h.node r.2 r.3) ∙ h.inside })),
      );
    }

module _ {n m : ℕ} {R : Rows} (sound : Sound n m R) (asked : Asked) (G : Signs) where
  keeps_there : (e t : ℕ) → InS (network m R) e t → Keeps asked G e t → Keeps asked (cut_signs n m G) e t
  keeps_there e t i k =
      let r = InS_range sound i in
      record {
        box = λ h. rw (box-cut m G.boxes e r.0 r.1, place-cut n G.x t r.2 r.3, place-cut n G.y t r.2 r.3) (k.box h);
        mask = λ h. rw (at_cut m G.masks e r.0 r.1, at_cut n G.modules t r.2 r.3) (k.mask h);
      }

  keeps_back : (e t : ℕ) → InS (network m R) e t → Keeps asked (cut_signs n m G) e t → Keeps asked G e t
  keeps_back e t i k =
      let r = InS_range sound i in
      record {
        box = λ h. rw (box-cut m G.boxes e r.0 r.1, place-cut n G.x t r.2 r.3, place-cut n G.y t r.2 r.3) at (k.box h);
        mask = λ h. rw (at_cut m G.masks e r.0 r.1, at_cut n G.modules t r.2 r.3) at (k.mask h);
      }

  consistent_cut : Consistent (network m R) (Keeps asked G) → Consistent (network m (cut m R)) (Keeps asked (cut_signs n m G))
  consistent_cut c = record { keeps = λ e t i. let j = InS_alike (other_way (network-cut m R)) i in keeps_there e t j (c.keeps e t j) }

  misses_back : {e t : ℕ} → Misses (network m (cut m R)) (Keeps asked (cut_signs n m G)) e t → Misses (network m R) (Keeps asked G) e t
  misses_back {e} {t} h = let i = InS_alike (other_way (network-cut m R)) h.member in record { member = i; refused = λ k. h.refused (keeps_there e t i k) }

  missed_cut : {e t : ℕ} → FirstMissed (network m R) (Keeps asked G) e t → FirstMissed (network m (cut m R)) (Keeps asked (cut_signs n m G)) e t
  missed_cut {e} {t} f = record {
    misses = record { member = InS_alike (network-cut m R) f.misses.member; refused = λ k. f.misses.refused (keeps_back e t f.misses.member k) };
    lowest_arc = λ i j k. f.lowest_arc i j (misses_back k);
    lowest_node = λ j k. f.lowest_node j (misses_back k);
  }

-- ---- The laws

-- the places of the arc rows beyond m
pub record SameRest (m : ℕ) (R S : Rows) : Type 0 where
  pub tails : drop m R.tails ≡ drop m S.tails
  pub heads : drop m R.heads ≡ drop m S.heads
  pub weights : drop m R.weights ≡ drop m S.weights
  pub closures : drop m R.closures ≡ drop m S.closures

module _ (asked : Asked) (n m : ℕ) (R : Rows) (G : Signs) where
  pub build_cut : {reply : Reply} {boxes : List ℤ} {masks : List ℕ} → BuildBy asked n m R G reply boxes masks
      → BuildBy asked n m (cut m R) (cut_signs n m G) reply (take (4 * m) boxes) (take m masks)
      × (drop (4 * m) boxes ≡ drop (4 * m) G.boxes)
      × (drop m masks ≡ drop m G.masks)
  build_cut (Builds.refused e) = (Builds.refused (build_judged_cut n m R asked G ∙ e), refl, refl)
  build_cut (Builds.built f d d') =
      let sound = (build_fine asked n m R G f).sound in
      let one : 1 * m ≡ m = omega arith in
      let r = if_cut (boxes_cut m) {Is = λ e old new. Tight (network m R) G.x G.y e new} {Js = λ e old new. Tight (network m (cut m R)) (take n G.x) (take n G.y) e new} (λ e low high. tight_cut sound G.x G.y) d in
      let q = if_cut (masks_cut m) {Is = λ e old new. MaskOf (network m R) G.modules e new} {Js = λ e old new. MaskOf (network m (cut m R)) (take n G.modules) e new} (λ e low high. mask_cut sound G.x G.y) d' in
      (Builds.built (build_judged_cut n m R asked G ∙ f) r.0 (rw one at q.0), r.1, rw one at q.1)

  pub check_cut : {reply : Reply} → CheckBy asked n m R G reply → CheckBy asked n m (cut m R) (cut_signs n m G) reply
  check_cut (Checks.refused e) = Checks.refused (check_judged_cut n m R asked G ∙ e)
  check_cut (Checks.consistent f c) =
      Checks.consistent (check_judged_cut n m R asked G ∙ f) (consistent_cut (check_fine asked n m R G f).lent.sound asked G c)
  check_cut (Checks.box_missed f h) =
      Checks.box_missed (check_judged_cut n m R asked G ∙ f) (missed_cut (check_fine asked n m R G f).lent.sound (boxes_of asked) G h)
  check_cut (Checks.mask_missed f c h) =
      let sound = (check_fine asked n m R G f).lent.sound in
      Checks.mask_missed (check_judged_cut n m R asked G ∙ f) (consistent_cut sound (boxes_of asked) G c) (missed_cut sound (masks_of asked) G h)

-- nothing is cut from a row that is not lent
none-cut : {A : Type 0} (k : ℕ) → take {A = A} k [] ≡ []
none-cut zero = refl
none-cut (suc k) = refl

box_signs-cut : (n m : ℕ) (x y boxes : List ℤ) → box_signs (take n x) (take n y) (take (4 * m) boxes) ≡ cut_signs n m (box_signs x y boxes)
box_signs-cut n m x y boxes = rw (none-cut {A = ℕ} n, none-cut {A = ℕ} m) refl

module _ (n m : ℕ) (R : Rows) (x y boxes : List ℤ) where
  judged-cut : (arc weight closure : ℕ) → update_judged boxes_alone n m (cut m R) (box_signs (take n x) (take n y) (take (4 * m) boxes)) arc weight closure
      ≡ update_judged boxes_alone n m R (box_signs x y boxes) arc weight closure
  judged-cut arc weight closure =
      ap (λ (G : Signs). update_judged boxes_alone n m (cut m R) G arc weight closure) (box_signs-cut n m x y boxes)
      ∙ update_judged_cut n m R boxes_alone (box_signs x y boxes) arc weight closure

  pub update_cut : (arc weight closure : ℕ) {reply : Reply} {rows : Rows} {after : List ℤ} → UpdateSays n m R x y boxes arc weight closure reply rows after
      → UpdateSays n m (cut m R) (take n x) (take n y) (take (4 * m) boxes) arc weight closure reply (cut m rows) (take (4 * m) after)
      × SameRest m rows R × (drop (4 * m) after ≡ drop (4 * m) boxes)
  update_cut arc weight closure (Updates.refused e) = (Updates.refused (judged-cut arc weight closure ∙ e), record { tails = refl; heads = refl; weights = refl; closures = refl }, refl)
  update_cut arc weight closure (Updates.updated {after = after} f d) =
      let u = update_fine boxes_alone n m R (box_signs x y boxes) arc weight closure f in
      let l = (check_fine boxes_alone n m R (box_signs x y boxes) u.0).lent in
      let S = changed R arc weight closure in
      let below : arc - 1 < m = omega (arith, u.1, u.2) in
      let same : cut m S ≡ changed (cut m R) arc weight closure =
      rw (take-set-lt m R.weights (arc - 1) weight below, take-set-lt m R.closures (arc - 1) closure below) refl in
      let r = drawn_cut (boxes_cut m) {Is = Updated (network m S) x y} {Js = Updated (network m (cut m S)) (take n x) (take n y)} (λ e low high. updated_cut (sound_changed l.sound arc weight closure u.1 u.2 u.3) x y) d in (
        rw same (Updates.updated (judged-cut arc weight closure ∙ f) (rw same at r.0)),
        record {
          tails = refl;
          heads = refl;
          weights = drop-set-lt m R.weights (arc - 1) weight below;
          closures = drop-set-lt m R.closures (arc - 1) closure below;
        },
        r.1,
      )

-- Two calls whose rows agree on the places that are needed have the same reply, and write the same there
module _
    (asked : Asked) (n m : ℕ) (R R' : Rows) (G G' : Signs) (rows : cut m R ≡ cut m R') (signs : cut_signs n m G ≡ cut_signs n m G') {reply reply' : Reply}
  where
    pub build_surplus : {boxes boxes' : List ℤ} {masks masks' : List ℕ} → BuildBy asked n m R G reply boxes masks → BuildBy asked n m R' G' reply' boxes' masks'
        → (reply ≡ reply') × (take (4 * m) boxes ≡ take (4 * m) boxes') × (take m masks ≡ take m masks')
    build_surplus p q = build_unique (rw (rows, signs) at (build_cut asked n m R G p).0) (build_cut asked n m R' G' q).0

    pub check_surplus : CheckBy asked n m R G reply → CheckBy asked n m R' G' reply' → reply ≡ reply'
    check_surplus p q = check_unique (rw (rows, signs) at (check_cut asked n m R G p)) (check_cut asked n m R' G' q)

module _
    (n m : ℕ) (R R' : Rows) (x x' y y' boxes boxes' : List ℤ)
    (rows : cut m R ≡ cut m R') (ex : take n x ≡ take n x') (ey : take n y ≡ take n y') (eb : take (4 * m) boxes ≡ take (4 * m) boxes')
    {reply reply' : Reply}
  where
    pub update_surplus : (arc weight closure : ℕ) {left left' : Rows} {after after' : List ℤ} → UpdateSays n m R x y boxes arc weight closure reply left after
        → UpdateSays n m R' x' y' boxes' arc weight closure reply' left' after'
        → (reply ≡ reply') × (cut m left ≡ cut m left') × (take (4 * m) after ≡ take (4 * m) after')
    update_surplus arc weight closure {left} {after = after} p q =
        let there = subst (λ (S : Rows). UpdateSays n m S (take n x) (take n y) (take (4 * m) boxes) arc weight closure reply (cut m left) (take (4 * m) after)) rows (update_cut n m R x y boxes arc weight closure p).0 in
        update_unique (rw (ex, ey, eb) at there) (update_cut n m R' x' y' boxes' arc weight closure q).0
