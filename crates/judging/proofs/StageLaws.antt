-- What calls have in common: what was judged fine is sound, and the other way round.
use Prim.Native.Nat.{ℕ, ◌*◌, ◌≤◌}
use mathlib.Core.Path.{◌≡◌, refl, ◌∙◌}
use mathlib.Core.Bool.{Bool, true, false, ◌&&◌, false≢true}
use mathlib.Core.List.{List}
use native.Mathlib.Omega.{arith}
use borrow.Author.Tests.{leb-true, le-leb}
use lib.IntN.{ℤ}
use lib.ListN.{length, replicate, length-replicate}
use lib.Dec.{leb}
use Rattle.rules.specs.declared.Asked.{Asked}
use Rattle.rules.specs.Judging.{Judged}
use Rattle.rules.specs.Judging.{fine}
use Rattle.rules.proofs.AndLaws.{and_true, and_yes}
use Rattle.rules.proofs.JudgingLaws.{both_fine, nothing_follows, passed, each_passes, each_fine}
use Rattle.geometry.specs.Box.{Within}
use Rattle.geometry.specs.Row.{coordinate}
use Rattle.geometry.proofs.Tests.{place-yes, yes-within}
use Rattle.walks.specs.Rows.{Rows, rows, Sound, SoundArc, at}
use Rattle.passing.specs.Signs.{Signs, signs}
use Rattle.judging.specs.Order.{sizes, lengths, arc_rows_long, box_rows_long, mask_rows_long, good_arc, arcs, closures, coordinates, good_module, module_numbers, shapes, arcs_judged, network_judged, if_asked, when_asked, signs_long, placed_by, shaped_by}

-- ---- Rows that are long enough

pub long_arcs : (m : ℕ) (R : Rows) → arc_rows_long m R ≡ true
    → (m ≤ length R.tails) × (m ≤ length R.heads) × (m ≤ length R.weights)
long_arcs m R e =
    let p = and_true (leb m (length R.tails) && leb m (length R.heads)) (leb m (length R.weights)) e in
    let q = and_true (leb m (length R.tails)) (leb m (length R.heads)) p.0 in
    (leb-true m _ q.0, leb-true m _ q.1, leb-true m _ p.1)

pub long_boxes : (n m : ℕ) (x y boxes : List ℤ) → box_rows_long n m x y boxes ≡ true
    → (n ≤ length x) × (n ≤ length y) × (4 * m ≤ length boxes)
long_boxes n m x y boxes e =
    let p = and_true (leb n (length x) && leb n (length y)) (leb (4 * m) (length boxes)) e in
    let q = and_true (leb n (length x)) (leb n (length y)) p.0 in
    (leb-true n _ q.0, leb-true n _ q.1, leb-true (4 * m) _ p.1)

pub long_masks : (n m : ℕ) (modules masks : List ℕ) → mask_rows_long n m modules masks ≡ true → (n ≤ length modules) × (m ≤ length masks)
long_masks n m modules masks e = let p = and_true (leb n (length modules)) (leb m (length masks)) e in (leb-true n _ p.0, leb-true m _ p.1)

-- a module that was judged good
module-yes : (modules : List ℕ) (t : ℕ) → good_module modules t ≡ true → (1 ≤ at modules t) × (at modules t ≤ 32)
module-yes modules t e = let p = and_true (leb 1 (at modules t)) (leb (at modules t) 32) e in (leb-true 1 _ p.0, leb-true _ 32 p.1)

-- ---- Arcs without closures

sound_arc : (n tail head weight : ℕ) → good_arc n tail head weight ≡ true → SoundArc n tail head weight
sound_arc n tail head weight e =
    let p = and_true (leb 1 tail && leb tail n && leb 1 head && leb head n) (leb weight 1_000_000) e in
    let q = and_true (leb 1 tail && leb tail n && leb 1 head) (leb head n) p.0 in
    let r = and_true (leb 1 tail && leb tail n) (leb 1 head) q.0 in
    let s = and_true (leb 1 tail) (leb tail n) r.0 in
    record {
      tail_low = leb-true 1 tail s.0;
      tail_high = leb-true tail n s.1;
      head_low = leb-true 1 head r.1;
      head_high = leb-true head n q.1;
      weight_high = leb-true weight 1_000_000 p.1;
    }

good_arc_lem : (n tail head weight : ℕ) → SoundArc n tail head weight → good_arc n tail head weight ≡ true
good_arc_lem n tail head weight a =
    let ends = and_yes (and_yes (le-leb 1 tail a.tail_low) (le-leb tail n a.tail_high)) (le-leb 1 head a.head_low) in
    and_yes (and_yes ends (le-leb head n a.head_high)) (le-leb weight 1_000_000 a.weight_high)

module _ (n m : ℕ) (R : Rows) (others : Bool) where
  -- the other rows are long enough
  pub arcs_others : arcs_judged n m R others ≡ fine → others ≡ true
  unfolding arcs_judged
  arcs_others e =
      let p = both_fine (sizes n m) _ e in
      (and_true (arc_rows_long m R) others (passed _ _ (both_fine (lengths (arc_rows_long m R && others)) _ p.1).0)).1

  -- the rows are sound, with any row of closures that is long enough
  pub arcs_fine : arcs_judged n m R others ≡ fine → m ≤ length R.closures → Sound n m R × (others ≡ true)
  unfolding arcs_judged
  arcs_fine e closed =
      let p = both_fine (sizes n m) _ e in
      let q = both_fine (lengths (arc_rows_long m R && others)) _ p.1 in
      let a = and_true (leb 1 n && leb n 512) (leb m 2048) (passed _ _ p.0) in
      let b = and_true (leb 1 n) (leb n 512) a.0 in
      let l = and_true (arc_rows_long m R) others (passed _ _ q.0) in
      let long = long_arcs m R l.0 in
      let good = each_passes _ _ m (both_fine (arcs n m R) fine q.1).0 in (
        record {
          nodes_low = leb-true 1 n b.0;
          nodes_high = leb-true n 512 b.1;
          arcs_high = leb-true m 2048 a.1;
          tails_long = long.0;
          heads_long = long.1;
          weights_long = long.2;
          closures_long = closed;
          arcs = λ i low high. sound_arc n (at R.tails i) (at R.heads i) (at R.weights i) (good i low high);
        },
        l.1,
      )

  arcs_judged_lem : Sound n m R → others ≡ true → arcs_judged n m R others ≡ fine
  unfolding arcs_judged
  arcs_judged_lem s o =
      let size : leb 1 n && leb n 512 && leb m 2048 ≡ true =
      and_yes (and_yes (le-leb 1 n s.nodes_low) (le-leb n 512 s.nodes_high)) (le-leb m 2048 s.arcs_high) in
      let long : arc_rows_long m R ≡ true =
      and_yes (and_yes (le-leb m _ s.tails_long) (le-leb m _ s.heads_long)) (le-leb m _ s.weights_long) in
      let good : arcs n m R ≡ fine =
      each_fine _ _ m (λ i low high. good_arc_lem n (at R.tails i) (at R.heads i) (at R.weights i) (s.arcs i low high)) in
      rw (size, long, o, good) refl

-- rows that were lent without closures are sound with every arc open
pub arcs_fine_open : (n m : ℕ) (R : Rows) (others : Bool) → arcs_judged n m R others ≡ fine
    → Sound n m (rows R.tails R.heads R.weights (replicate m 0)) × (others ≡ true)
unfolding arcs_judged
arcs_fine_open n m R others e =
    arcs_fine n m (rows R.tails R.heads R.weights (replicate m 0)) others e (omega (arith, length-replicate {A = ℕ} m 0))

-- ---- A network

-- the closures of the arcs 1..m are 0 or 1
abbrev pub Closures : ℕ → List ℕ → Type 0
Closures m row = (e : ℕ) → 1 ≤ e → e ≤ m → at row e ≤ 1

module _ (n m : ℕ) (R : Rows) (others : Bool) where
  -- the row of closures is judged among the others
  pub closed_fine : arcs_judged n m R (leb m (length R.closures) && others) ≡ fine → Sound n m R × (others ≡ true)
  closed_fine e =
      let long = leb m (length R.closures) in
      let o = and_true long others (arcs_others n m R (long && others) e) in
      ((arcs_fine n m R (long && others) e (leb-true m _ o.0)).0, o.1)

  -- the rows are sound, and the others long enough
  pub network_fine : network_judged n m R others ≡ fine → Sound n m R × (others ≡ true)
  unfolding network_judged
  network_fine e = closed_fine (both_fine (arcs_judged n m R (leb m (length R.closures) && others)) _ e).0

  pub network-closures : network_judged n m R others ≡ fine → Closures m R.closures
  unfolding network_judged
  network-closures e =
      let p = both_fine (arcs_judged n m R (leb m (length R.closures) && others)) _ e in
      let good = each_passes _ _ m (both_fine (closures m R.closures) fine p.1).0 in
      λ i low high. leb-true (at R.closures i) 1 (good i low high)

  pub network_judged_lem : Sound n m R → Closures m R.closures → others ≡ true → network_judged n m R others ≡ fine
  unfolding network_judged
  network_judged_lem s bytes o =
      let long = and_yes (le-leb m _ s.closures_long) o in
      let good : closures m R.closures ≡ fine = each_fine _ _ m (λ i low high. le-leb (at R.closures i) 1 (bytes i low high)) in
      rw (arcs_judged_lem n m R (leb m (length R.closures) && others) s long, good) refl

-- ---- What is asked

-- what is asked passes where its test does
pub asked_true : (b test : Bool) → if_asked b test ≡ true → b ≡ true → test ≡ true
asked_true true test e h = e
asked_true false test e h = absurd (false≢true h)

pub true_asked : (b test : Bool) → (b ≡ true → test ≡ true) → if_asked b test ≡ true
true_asked true test h = h refl
true_asked false test h = refl

pub asked_fine : (b : Bool) (stage : Judged) → when_asked b stage ≡ fine → b ≡ true → stage ≡ fine
asked_fine true stage e h = e
asked_fine false stage e h = absurd (false≢true h)

pub fine_asked : (b : Bool) (stage : Judged) → (b ≡ true → stage ≡ fine) → when_asked b stage ≡ fine
fine_asked true stage h = h refl
fine_asked false stage h = refl

-- coordinates and a row for boxes, where they were judged fine
pub record PlacesLent (n m : ℕ) (x y boxes : List ℤ) : Type 0 where
  pub x_long : n ≤ length x
  pub y_long : n ≤ length y
  pub boxes_long : 4 * m ≤ length boxes
  pub places : (t : ℕ) → 1 ≤ t → t ≤ n → Within (coordinate x t) × Within (coordinate y t)

-- modules and a row for masks, where they were judged fine
pub record ModulesLent (n m : ℕ) (modules masks : List ℕ) : Type 0 where
  pub modules_long : n ≤ length modules
  pub masks_long : m ≤ length masks
  pub numbers : (t : ℕ) → 1 ≤ t → t ≤ n → (1 ≤ at modules t) × (at modules t ≤ 32)

-- what is lent where a network and what is asked were judged fine
pub record SignsLent (asked : Asked) (n m : ℕ) (R : Rows) (G : Signs) : Type 0 where
  pub sound : Sound n m R
  pub bytes : Closures m R.closures
  pub places : asked.boxes ≡ true → PlacesLent n m G.x G.y G.boxes
  pub modules : asked.masks ≡ true → ModulesLent n m G.modules G.masks

-- the rows of boxes and masks count by their lengths
pub lent_after : {asked : Asked} {n m : ℕ} {R : Rows} {G : Signs} {boxes : List ℤ} {masks : List ℕ} → length boxes ≡ length G.boxes → length masks ≡ length G.masks
    → SignsLent asked n m R G → SignsLent asked n m R (signs G.x G.y boxes G.modules masks)
lent_after long long' l = record {
  sound = l.sound;
  bytes = l.bytes;
  places = λ h. let p = l.places h in record { x_long = p.x_long; y_long = p.y_long; boxes_long = omega (arith, p.boxes_long); places = p.places };
  modules = λ h. let p = l.modules h in record { modules_long = p.modules_long; masks_long = omega (arith, p.masks_long); numbers = p.numbers };
}

-- the rows are long enough
pub signs_long_lem : (n m : ℕ) (asked : Asked) (G : Signs) (others : Bool) → signs_long n m asked G others ≡ true
    → (asked.boxes ≡ true → (n ≤ length G.x) × (n ≤ length G.y) × (4 * m ≤ length G.boxes))
    × (asked.masks ≡ true → (n ≤ length G.modules) × (m ≤ length G.masks))
    × (others ≡ true)
signs_long_lem n m asked G others e =
    let p = and_true (if_asked asked.boxes (box_rows_long n m G.x G.y G.boxes)) _ e in
    let q = and_true (if_asked asked.masks (mask_rows_long n m G.modules G.masks)) others p.1 in (
      (λ h. long_boxes n m G.x G.y G.boxes (asked_true asked.boxes _ p.0 h)),
      (λ h. long_masks n m G.modules G.masks (asked_true asked.masks _ q.0 h)),
      q.1,
    )

-- for any judgement of a network: what is fine together is fine each
module _ (judged : Bool → Judged) (n m : ℕ) (asked : Asked) (G : Signs) (others : Bool) where
  pub placed_parts : placed_by judged n m asked G others ≡ fine
      → (judged (signs_long n m asked G others) ≡ fine) × (asked.boxes ≡ true → coordinates n G.x G.y ≡ fine) × (asked.masks ≡ true → module_numbers n G.modules ≡ fine)
  unfolding placed_by
  placed_parts e =
      let p = both_fine (judged (signs_long n m asked G others)) _ e in
      let q = both_fine (when_asked asked.boxes (coordinates n G.x G.y)) _ p.1 in
      let r = both_fine (when_asked asked.masks (module_numbers n G.modules)) fine q.1 in
      (p.0, asked_fine asked.boxes _ q.0, asked_fine asked.masks _ r.0)

  pub shaped_parts : shaped_by judged n m asked G others ≡ fine → (placed_by judged n m asked G others ≡ fine) × (asked.boxes ≡ true → shapes m G.boxes ≡ fine)
  unfolding shaped_by
  shaped_parts e =
      let p = both_fine (placed_by judged n m asked G others) _ e in
      (p.0, asked_fine asked.boxes _ (both_fine (when_asked asked.boxes (shapes m G.boxes)) fine p.1).0)

module _ (n m : ℕ) (R : Rows) (asked : Asked) (G : Signs) (others : Bool) where
  pub placed_fine : placed_by (network_judged n m R) n m asked G others ≡ fine → SignsLent asked n m R G × (others ≡ true)
  placed_fine e =
      let p = placed_parts (network_judged n m R) n m asked G others e in
      let f = network_fine n m R (signs_long n m asked G others) p.0 in
      let l = signs_long_lem n m asked G others f.1 in (
        record {
          sound = f.0;
          bytes = network-closures n m R (signs_long n m asked G others) p.0;
          places = λ h.
              let k = l.0 h in
              let g = each_passes _ _ n (p.1 h) in
              record { x_long = k.0; y_long = k.1; boxes_long = k.2; places = λ t low high. place-yes (coordinate G.x t) (coordinate G.y t) (g t low high) };
          modules = λ h.
              let k = l.1 h in
              let g = each_passes _ _ n (p.2 h) in
              record { modules_long = k.0; masks_long = k.1; numbers = λ t low high. module-yes G.modules t (g t low high) };
        },
        l.2,
      )

  pub placed_judged : SignsLent asked n m R G → others ≡ true → placed_by (network_judged n m R) n m asked G others ≡ fine
  unfolding placed_by
  placed_judged l o =
      let long : signs_long n m asked G others ≡ true =
      and_yes
      (true_asked asked.boxes _ (λ h. let p = l.places h in and_yes (and_yes (le-leb n _ p.x_long) (le-leb n _ p.y_long)) (le-leb (4 * m) _ p.boxes_long)))
      (and_yes (true_asked asked.masks _ (λ h. let p = l.modules h in and_yes (le-leb n _ p.modules_long) (le-leb m _ p.masks_long))) o) in
      let places : when_asked asked.boxes (coordinates n G.x G.y) ≡ fine =
      fine_asked asked.boxes _ (λ h.
      each_fine _ _ n (λ t low high.
      let p = (l.places h).places t low high in and_yes (yes-within (coordinate G.x t) p.0) (yes-within (coordinate G.y t) p.1))) in
      let numbers : when_asked asked.masks (module_numbers n G.modules) ≡ fine =
      fine_asked asked.masks _ (λ h.
      each_fine _ _ n (λ t low high.
      let p = (l.modules h).numbers t low high in and_yes (le-leb 1 _ p.0) (le-leb _ 32 p.1))) in
      rw (network_judged_lem n m R (signs_long n m asked G others) l.sound l.bytes long, places, numbers) refl

-- what is asked and fine leaves the judgement to the network and the other rows
pub shaped_adds_nothing : (n m : ℕ) (R : Rows) (asked : Asked) (G : Signs) → shaped_by (network_judged n m R) n m asked G true ≡ fine → (others : Bool)
    → shaped_by (network_judged n m R) n m asked G others ≡ network_judged n m R others
unfolding placed_by shaped_by
shaped_adds_nothing n m R asked G e others =
    let p = shaped_parts (network_judged n m R) n m asked G true e in
    let q = placed_parts (network_judged n m R) n m asked G true p.0 in
    let f = (network_fine n m R (signs_long n m asked G true) q.0).1 in
    let r = and_true (if_asked asked.boxes (box_rows_long n m G.x G.y G.boxes)) _ f in
    let long : if_asked asked.boxes (box_rows_long n m G.x G.y G.boxes) ≡ true = r.0 in
    let long' : if_asked asked.masks (mask_rows_long n m G.modules G.masks) ≡ true = (and_true _ true r.1).0 in
    let good : when_asked asked.boxes (coordinates n G.x G.y) ≡ fine = fine_asked asked.boxes _ q.1 in
    let numbers : when_asked asked.masks (module_numbers n G.modules) ≡ fine = fine_asked asked.masks _ q.2 in
    let fine : when_asked asked.boxes (shapes m G.boxes) ≡ fine = fine_asked asked.boxes _ p.1 in
    rw (long, long', good, numbers, fine) (nothing_follows _ ∙ nothing_follows _)
