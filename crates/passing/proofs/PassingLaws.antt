-- The network of the arcs that pass the tests asked: by what they keep, and by the code's test.
use Prim.Native.Nat.{ℕ, ◌≤◌}
use mathlib.Core.Path.{◌≡◌, refl, sym}
use mathlib.Core.Bool.{Bool, true, false, false≢true}
use mathlib.Core.List.{List}
use Rattle.rules.specs.declared.Asked.{Asked}
use Rattle.rules.proofs.AndLaws.{and_true, and_yes}
use Rattle.geometry.specs.Row.{box_of, coordinate}
use Rattle.geometry.proofs.Tests.{holds_yes, yes_holds}
use Rattle.masks.proofs.MaskLaws.{has_yes, yes_has}
use Rattle.walks.specs.Walk.{Net, only, kept}
use Rattle.walks.specs.Rows.{Rows, at, laid, is_open, network}
use Rattle.walks.proofs.Alike.{Alike}
use Rattle.passing.specs.Signs.{Signs}
use Rattle.passing.specs.Passing.{HoldsNode, LightsNode, by_boxes, by_masks, passing, Keeps}
use Rattle.passing.specs.Asking.{place_if, module_if, tests_toward, held_b, lit_b, keeps}

-- ---- One kind

module _ (G : Signs) (t : ℕ) (N : Net) where
  boxes_in : (b : Bool) (e : ℕ) → (by_boxes b G t N).Arc e → N.Arc e × (b ≡ true → HoldsNode G.x G.y G.boxes e t)
  boxes_in true e a = (a.0, λ h. a.1)
  boxes_in false e a = (a, λ h. absurd (false≢true h))

  in_boxes : (b : Bool) (e : ℕ) → N.Arc e → (b ≡ true → HoldsNode G.x G.y G.boxes e t) → (by_boxes b G t N).Arc e
  in_boxes true e a h = (a, h refl)
  in_boxes false e a h = a

  masks_in : (b : Bool) (e : ℕ) → (by_masks b G t N).Arc e → N.Arc e × (b ≡ true → LightsNode G.modules G.masks e t)
  masks_in true e a = (a.0, λ h. a.1)
  masks_in false e a = (a, λ h. absurd (false≢true h))

  in_masks : (b : Bool) (e : ℕ) → N.Arc e → (b ≡ true → LightsNode G.modules G.masks e t) → (by_masks b G t N).Arc e
  in_masks true e a h = (a, h refl)
  in_masks false e a h = a

-- each arc has its own ends and weight
module _ (G : Signs) (t : ℕ) (N : Net) (e : ℕ) where
  pub same_tail : (b c : Bool) → (by_masks c G t (by_boxes b G t N)).tail e ≡ N.tail e
  same_tail true true = refl
  same_tail true false = refl
  same_tail false true = refl
  same_tail false false = refl

  pub same_head : (b c : Bool) → (by_masks c G t (by_boxes b G t N)).head e ≡ N.head e
  same_head true true = refl
  same_head true false = refl
  same_head false true = refl
  same_head false false = refl

  pub same_weight : (b c : Bool) → (by_masks c G t (by_boxes b G t N)).weight e ≡ N.weight e
  same_weight true true = refl
  same_weight true false = refl
  same_weight false true = refl
  same_weight false false = refl

-- ---- All that is asked

module _ (asked : Asked) (G : Signs) (t : ℕ) (N : Net) where
  pub passing_in : (e : ℕ) → (passing asked G t N).Arc e → N.Arc e × Keeps asked G e t
  passing_in e a =
      let p = masks_in G t (by_boxes asked.boxes G t N) asked.masks e a in
      let q = boxes_in G t N asked.boxes e p.0 in
      (q.0, record { box = q.1; mask = p.1 })

  pub in_passing : (e : ℕ) → N.Arc e → Keeps asked G e t → (passing asked G t N).Arc e
  in_passing e a k = in_masks G t (by_boxes asked.boxes G t N) asked.masks e (in_boxes G t N asked.boxes e a k.box) k.mask

  -- the arcs that pass are those that the tests keep
  pub passing-only : Alike (passing asked G t N) (only (λ e. Keeps asked G e t) N)
  passing-only = record {
    there = passing_in;
    back = λ e a. in_passing e a.0 a.1;
    tail = λ e a. same_tail G t N e asked.boxes asked.masks;
    head = λ e a. same_head G t N e asked.boxes asked.masks;
    weight = λ e a. same_weight G t N e asked.boxes asked.masks;
  }

-- ---- The code's test

module _ (G : Signs) (e t : ℕ) where
  held_holds : (b : Bool) → held_b (place_if b (coordinate G.x t) (coordinate G.y t)) G.boxes e ≡ true → b ≡ true → HoldsNode G.x G.y G.boxes e t
  held_holds true p h = holds_yes (box_of G.boxes e) (coordinate G.x t) (coordinate G.y t) p
  held_holds false p h = absurd (false≢true h)

  holds_held : (b : Bool) → (b ≡ true → HoldsNode G.x G.y G.boxes e t) → held_b (place_if b (coordinate G.x t) (coordinate G.y t)) G.boxes e ≡ true
  holds_held true h = yes_holds (box_of G.boxes e) (coordinate G.x t) (coordinate G.y t) (h refl)
  holds_held false h = refl

  lit_lights : (b : Bool) → (1 ≤ at G.modules t) → lit_b (module_if b (at G.modules t)) G.masks e ≡ true → b ≡ true → LightsNode G.modules G.masks e t
  lit_lights true low p h = has_yes (at G.masks e) (at G.modules t) low p
  lit_lights false low p h = absurd (false≢true h)

  lights_lit : (b : Bool) → (b ≡ true → LightsNode G.modules G.masks e t) → lit_b (module_if b (at G.modules t)) G.masks e ≡ true
  lights_lit true h = yes_has (at G.masks e) (at G.modules t) (h refl)
  lights_lit false h = refl

-- an open arc passes the code's test, toward t, exactly where the tests asked keep t; where masks are asked, t's module is one
module _ (asked : Asked) (G : Signs) (e t : ℕ) (closures : List ℕ) where
  pub passes-keeps : (asked.masks ≡ true → 1 ≤ at G.modules t) → keeps (tests_toward asked G.x G.y G.modules t) closures G.boxes G.masks e ≡ true
      → Keeps asked G e t × (is_open closures e ≡ true)
  passes-keeps low p =
      let q = and_true (held_b (place_if asked.boxes (coordinate G.x t) (coordinate G.y t)) G.boxes e) _ p in
      let r = and_true (lit_b (module_if asked.masks (at G.modules t)) G.masks e) (is_open closures e) q.1 in
      (record { box = held_holds G e t asked.boxes q.0; mask = λ h. lit_lights G e t asked.masks (low h) r.0 h }, r.1)

  pub keeps-passes : Keeps asked G e t → is_open closures e ≡ true → keeps (tests_toward asked G.x G.y G.modules t) closures G.boxes G.masks e ≡ true
  keeps-passes k unlocked = and_yes (holds_held G e t asked.boxes k.box) (and_yes (lights_lit G e t asked.masks k.mask) unlocked)

-- the network by the code's test, toward t, is that of the arcs that pass
module _ (asked : Asked) (G : Signs) (t m : ℕ) (R : Rows) (low : asked.masks ≡ true → 1 ≤ at G.modules t) where
  pub tested_arcs : Alike (kept (keeps (tests_toward asked G.x G.y G.modules t) R.closures G.boxes G.masks) (laid m R)) (passing asked G t (network m R))
  unfolding network
  tested_arcs = record {
    there = λ e a. let p = passes-keeps asked G e t R.closures low a.1 in in_passing asked G t (network m R) e (a.0, p.1) p.0;
    back = λ e a. let p = passing_in asked G t (network m R) e a in (p.0.0, keeps-passes asked G e t R.closures p.1 p.0.1);
    tail = λ e a. sym (same_tail G t (network m R) e asked.boxes asked.masks);
    head = λ e a. sym (same_head G t (network m R) e asked.boxes asked.masks);
    weight = λ e a. sym (same_weight G t (network m R) e asked.boxes asked.masks);
  }
