-- What each call has judged fine is sound, and the other way round.
use Prim.Native.Nat.{ℕ, ◌*◌, ◌≤◌}
use mathlib.Core.Path.{◌≡◌, refl, sym, ◌∙◌}
use mathlib.Core.Logic.{◌↔◌}
use mathlib.Core.Bool.{Bool, true, ◌&&◌}
use mathlib.Core.List.{List}
use native.Mathlib.Omega.{arith}
use borrow.Author.Tests.{leb-true, le-leb}
use lib.IntN.{ℤ}
use lib.ListN.{length}
use lib.Dec.{leb}
use Rattle.rules.specs.declared.Asked.{Asked}
use Rattle.rules.specs.Judging.{fine}
use Rattle.rules.proofs.AndLaws.{and_true, same_test}
use Rattle.rules.proofs.JudgingLaws.{both_fine, nothing_follows, passed, each_passes, each_fine}
use Rattle.geometry.specs.Box.{WellShaped}
use Rattle.geometry.specs.Row.{box_of, Shaped}
use Rattle.geometry.proofs.Tests.{shaped_yes, yes_shaped}
use Rattle.walks.specs.Rows.{Rows, Sound}
use Rattle.passing.specs.Signs.{Signs, signs, nothing, boxes_alone, box_signs}
use Rattle.passing.specs.Asking.{Lent}
use Rattle.judging.specs.Order.{shapes, ends, known_arc, reweighing, change, network_judged, when_asked, placed_by, shaped_by, searched_by, search_judged, why_judged, build_judged, check_judged, update_judged}
use Rattle.judging.proofs.StageLaws.{network_fine, fine_asked, SignsLent, placed_fine, shaped_parts, placed_judged, shaped_adds_nothing}

-- the boxes that were judged are well shaped
shapes_fine : (m : ℕ) (boxes : List ℤ) → 4 * m ≤ length boxes → shapes m boxes ≡ fine → Shaped m boxes
shapes_fine m boxes long e =
    record { long = long; each = λ i low high. shaped_yes (box_of boxes i) (each_passes _ _ m e i low high) }

-- source and target are nodes
ends_fine : (n s t : ℕ) → ends n s t ≡ fine → (1 ≤ s) × (s ≤ n) × (1 ≤ t) × (t ≤ n)
ends_fine n s t e =
    let p = and_true (leb 1 s && leb s n && leb 1 t) (leb t n) (passed _ _ e) in
    let q = and_true (leb 1 s && leb s n) (leb 1 t) p.0 in
    let r = and_true (leb 1 s) (leb s n) q.0 in
    (leb-true 1 s r.0, leb-true s n r.1, leb-true 1 t q.1, leb-true t n p.1)

-- there is such an arc
known_arc_fine : (m arc : ℕ) → known_arc m arc ≡ fine → (1 ≤ arc) × (arc ≤ m)
known_arc_fine m arc e = let p = and_true (leb 1 arc) (leb arc m) (passed _ _ e) in (leb-true 1 arc p.0, leb-true arc m p.1)

-- what a search is lent, where it was judged fine
pub record SearchLent (n m : ℕ) (R : Rows) (s t places : ℕ) : Type 0 where
  pub sound : Sound n m R
  pub source_low : 1 ≤ s
  pub source_high : s ≤ n
  pub target_low : 1 ≤ t
  pub target_high : t ≤ n
  pub room : n ≤ places

-- what is asked is lent
pub signs-lent : {asked : Asked} {n m : ℕ} {R : Rows} {G : Signs} → SignsLent asked n m R G → Lent asked n m G
signs-lent l = record {
  x_long = λ h. (l.places h).x_long;
  y_long = λ h. (l.places h).y_long;
  boxes_long = λ h. (l.places h).boxes_long;
  modules_long = λ h. (l.modules h).modules_long;
  masks_long = λ h. (l.modules h).masks_long;
  numbers = λ h. (l.modules h).numbers;
}

-- what is asked, and its boxes are well shaped
pub record SignsShaped (asked : Asked) (n m : ℕ) (R : Rows) (G : Signs) : Type 0 where
  pub lent : SignsLent asked n m R G
  pub shaped : asked.boxes ≡ true → Shaped m G.boxes

search_lent : (n m : ℕ) (R : Rows) (s t places : ℕ) → Sound n m R → leb n places ≡ true → ends n s t ≡ fine → SearchLent n m R s t places
search_lent n m R s t places sound room e =
    let p = ends_fine n s t e in
    record { sound = sound; source_low = p.0; source_high = p.1; target_low = p.2; target_high = p.3; room = leb-true n places room }

-- ---- The plain search

-- a plain search is judged by the network alone
pub plain-judged : (n m : ℕ) (R : Rows) (G : Signs) (others : Bool) → shaped_by (network_judged n m R) n m nothing G others ≡ network_judged n m R others
unfolding placed_by shaped_by
plain-judged n m R G others = nothing_follows _ ∙ nothing_follows _

-- ---- What is asked

module _ (asked : Asked) (n m : ℕ) (R : Rows) (G : Signs) where
  shaped_fine : (others : Bool) → shaped_by (network_judged n m R) n m asked G others ≡ fine → SignsShaped asked n m R G × (others ≡ true)
  shaped_fine others e =
      let r = shaped_parts (network_judged n m R) n m asked G others e in
      let q = placed_fine n m R asked G others r.0 in
      (record { lent = q.0; shaped = λ h. shapes_fine m G.boxes (q.0.places h).boxes_long (r.1 h) }, q.1)

  pub search_fine : (s t places : ℕ) → search_judged asked n m R G s t places ≡ fine → SearchLent n m R s t places × SignsShaped asked n m R G
  unfolding searched_by search_judged
  search_fine s t places e =
      let p = both_fine (shaped_by (network_judged n m R) n m asked G (leb n places)) _ e in
      let q = shaped_fine (leb n places) p.0 in
      (search_lent n m R s t places q.0.lent.sound q.1 (both_fine (ends n s t) fine p.1).0, q.0)

  pub build_fine : build_judged asked n m R G ≡ fine → SignsLent asked n m R G
  unfolding build_judged
  build_fine e = (placed_fine n m R asked G true e).0

  pub check_fine : check_judged asked n m R G ≡ fine → SignsShaped asked n m R G
  unfolding check_judged
  check_fine e = (shaped_fine true e).0

  pub update_fine : (arc weight closure : ℕ) → update_judged asked n m R G arc weight closure ≡ fine
      → (check_judged asked n m R G ≡ fine) × (1 ≤ arc) × (arc ≤ m) × (weight ≤ 1_000_000) × (closure ≤ 1)
  unfolding update_judged
  update_fine arc weight closure e =
      let p = both_fine (check_judged asked n m R G) _ e in
      let c = (both_fine (change m arc weight closure) fine p.1).0 in
      let r = both_fine (reweighing m arc weight) _ c in
      let q = both_fine (known_arc m arc) _ r.0 in
      let a = known_arc_fine m arc q.0 in
      let w = passed (leb weight 1_000_000) _ (both_fine _ fine q.1).0 in
      let k = passed (leb closure 1) _ (both_fine _ fine r.1).0 in
      (p.0, a.0, a.1, leb-true weight 1_000_000 w, leb-true closure 1 k)

  pub shaped_judged : SignsLent asked n m R G → (asked.boxes ≡ true → (e : ℕ) → 1 ≤ e → e ≤ m → WellShaped (box_of G.boxes e)) → check_judged asked n m R G ≡ fine
  unfolding check_judged shaped_by
  shaped_judged l h =
      let good : when_asked asked.boxes (shapes m G.boxes) ≡ fine =
      fine_asked asked.boxes _ (λ x. each_fine _ _ m (λ e low high. yes_shaped (box_of G.boxes e) (h x e low high))) in
      rw (placed_judged n m R asked G true l refl, good) refl

  -- where a check gets past 10, a search by what is asked is judged as a plain one
  pub judged_alike : check_judged asked n m R G ≡ fine → (H : Signs) (s t places : ℕ) → search_judged asked n m R G s t places ≡ search_judged nothing n m R H s t places
  unfolding searched_by check_judged search_judged
  judged_alike fine H s t places = rw (shaped_adds_nothing n m R asked G fine (leb n places), plain-judged n m R H (leb n places)) refl

-- a search is judged alike by two route rows that both have n places, or both have not
pub room_alike : (asked : Asked) (n m : ℕ) (R : Rows) (G : Signs) (s t : ℕ) {a b : ℕ} → (n ≤ a) ↔ (n ≤ b)
    → search_judged asked n m R G s t b ≡ search_judged asked n m R G s t a
unfolding searched_by search_judged
room_alike asked n m R G s t {a} {b} h = rw long
  where
    long : leb n b ≡ leb n a
    long =
        same_test (leb n b) (leb n a) (λ e. le-leb n a (h.1 (leb-true n b e))) (λ e. le-leb n b (h.0 (leb-true n a e)))

-- boxes alone are judged so whatever modules and masks there are
pub boxes_judged : (n m : ℕ) (R : Rows) (x y boxes : List ℤ) (modules masks : List ℕ) (arc weight closure : ℕ)
    → update_judged boxes_alone n m R (signs x y boxes modules masks) arc weight closure ≡ update_judged boxes_alone n m R (box_signs x y boxes) arc weight closure
unfolding update_judged check_judged shaped_by placed_by
boxes_judged n m R x y boxes modules masks arc weight closure = refl

-- ---- Why not by an arc

module _ (n m : ℕ) (R : Rows) (s t arc : ℕ) where
  -- what is lent is what a search is lent, with room for any route, and there is such an arc
  pub why_fine : why_judged n m R s t arc ≡ fine → SearchLent n m R s t n × (1 ≤ arc) × (arc ≤ m)
  unfolding why_judged
  why_fine e =
      let p = both_fine (network_judged n m R true) _ e in
      let q = both_fine (ends n s t) _ p.1 in
      let a = known_arc_fine m arc (both_fine (known_arc m arc) fine q.1).0 in
      (search_lent n m R s t n (network_fine n m R true p.0).0 (le-leb n n (omega arith)) q.0, a.0, a.1)

  -- where a plain search is judged fine, so is this for each of its arcs
  pub search_why : (G : Signs) (places : ℕ) → search_judged nothing n m R G s t places ≡ fine → 1 ≤ arc → arc ≤ m → why_judged n m R s t arc ≡ fine
  unfolding searched_by search_judged why_judged
  search_why G places e low high =
      let p = both_fine (shaped_by (network_judged n m R) n m nothing G (leb n places)) _ e in
      let f = sym (plain-judged n m R G (leb n places)) ∙ p.0 in
      let room = (network_fine n m R (leb n places) f).1 in
      let net : network_judged n m R true ≡ fine = rw room at f in
      let good : ends n s t ≡ fine = (both_fine (ends n s t) fine p.1).0 in
      rw (net, good, le-leb 1 arc low, le-leb arc m high) refl
