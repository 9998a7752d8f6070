-- Laws of rows drawn anew: arc by arc, one drawing after another, and that there is one such row only.
use Prim.Native.Nat.{ℕ, ◌+◌, ◌-◌, ◌*◌, ◌/◌, ◌%◌, ◌≤◌, ◌<◌}
use mathlib.Core.Path.{◌≡◌, refl, sym, ap, ◌∙◌, subst}
use mathlib.Core.Bool.{Bool}
use mathlib.Core.Logic.{inl, inr}
use mathlib.Core.List.{List}
use native.Mathlib.Nat.{mul-suc}
use native.Mathlib.Numerals.{add-one}
use native.Mathlib.Omega.{arith}
use native.Mathlib.Decide.{ℕ_discrete, dec_lt}
use lib.IntN.{ℤ}
use lib.ListN.{length, set, length-set, get_or}
use lib.Seq.{ext_get_or, get_or-set_same, get_or-set_other}
use Rattle.geometry.specs.Box.{Box}
use Rattle.geometry.specs.Row.{number, box_from, box_of, with_box}
use Rattle.geometry.proofs.SmallestLaws.{same_box}
use Rattle.geometry.proofs.RowLaws.{with-length, with_same, with_other, with_past}
use Rattle.std.proofs.lemmas.Bool.{cases_Bool}
use Rattle.drawing.specs.Drawn.{Kind, Row, box_row, single_row, Drawn, DrawnIf}

-- ---- What the laws need of a kind of row

-- what stands at a place, counted from 0
abbrev place : (K : Kind) → Row K → ℕ → K.Number
place K row i = get_or row i K.none

-- how an entry is put into a row, and what that leaves; and that entries tell what stands at their places
pub record Puts (K : Kind) (put : Row K → ℕ → K.Entry → Row K) : Type 0 where
  pub long : (row : Row K) (e : ℕ) (c : K.Entry) → length (put row e c) ≡ length row
  pub there : (row : Row K) (e : ℕ) (c : K.Entry) → 1 ≤ e → K.places * e ≤ length row → K.entry (put row e c) e ≡ c
  pub elsewhere : (row : Row K) (e i : ℕ) (c : K.Entry) → 1 ≤ e → 1 ≤ i → (i ≡ e → ⊥)
      → K.entry (put row e c) i ≡ K.entry row i
  pub past : (row : Row K) (e : ℕ) (c : K.Entry) (i : ℕ) → 1 ≤ e → K.places * e ≤ i
      → place K (put row e c) i ≡ place K row i
  pub by_places : (row other : Row K) (e : ℕ) → ((i : ℕ) → K.places * (e - 1) ≤ i → place K row i ≡ place K other i)
      → K.entry row e ≡ K.entry other e
  pub to_places : (row other : Row K) (m : ℕ) → ((e : ℕ) → 1 ≤ e → e ≤ m → K.entry row e ≡ K.entry other e)
      → (i : ℕ) → i < K.places * m → place K row i ≡ place K other i

-- boxes
box_places : (row other : List ℤ) (m : ℕ) → ((e : ℕ) → 1 ≤ e → e ≤ m → box_of row e ≡ box_of other e)
    → (i : ℕ) → i < 4 * m → number row i ≡ number other i
box_places row other m same i h =
    let e : ℕ = i / 4 + 1 in
    let q : box_from row (4 * (e - 1)) ≡ box_from other (4 * (e - 1)) = same e (omega arith) (omega arith) in
    elim (dec_lt (i % 4) 1) [
      | yes p ↦ at (omega arith) (ap (λ (b : Box). b.left) q)
      | no p ↦ elim (dec_lt (i % 4) 2) [
        | yes p' ↦ at (omega arith) (ap (λ (b : Box). b.right) q)
        | no p' ↦ elim (dec_lt (i % 4) 3) [
          | yes p'' ↦ at (omega arith) (ap (λ (b : Box). b.low) q)
          | no p'' ↦ at (omega arith) (ap (λ (b : Box). b.high) q)
        ]
      ]
    ]
  where
    at : {j : ℕ} → j ≡ i → number row j ≡ number other j → number row i ≡ number other i
    at {j} p q = rw p at q

pub puts_box : Puts box_row with_box
puts_box = record {
  long = with-length;
  there = with_same;
  elsewhere = with_other;
  past = with_past;
  by_places = λ row other e h. same_box (h _ (omega arith)) (h _ (omega arith)) (h _ (omega arith)) (h _ (omega arith));
  to_places = box_places;
}

-- rows of one place an arc
module _ {A : Type 0} (none : A) where
  abbrev pub with_single : List A → ℕ → A → List A
  with_single row e c = set row (e - 1) c

  single_places : (row other : List A) (m : ℕ) → ((e : ℕ) → 1 ≤ e → e ≤ m → get_or row (e - 1) none ≡ get_or other (e - 1) none)
      → (i : ℕ) → i < 1 * m → get_or row i none ≡ get_or other i none
  single_places row other m same i h = let back : i + 1 - 1 ≡ i = omega arith in rw back at (same (i + 1) (omega arith) (omega arith))

  pub puts_single : Puts (single_row A none) with_single
  puts_single = record {
    long = λ row e c. length-set row (e - 1) c;
    there = λ row e c low room. get_or-set_same row (e - 1) c none (omega arith);
    elsewhere = λ row e i c low low' other. get_or-set_other row (e - 1) (i - 1) c none (λ q. other (omega arith));
    past = λ row e c i low high. get_or-set_other row (e - 1) i c none (λ q. omega arith);
    by_places = λ row other e h. h (e - 1) (omega arith);
    to_places = single_places;
  }

-- ---- Arc by arc

-- the places of one arc more
wider : (p k : ℕ) → p * k ≤ p * (k + 1)
wider p k = rw (add-one k) (omega (arith, mul-suc p k))

module _ {K : Kind} {Is : ℕ → K.Entry → K.Entry → Type 0} {before : Row K} where
  pub drawn_none : Drawn K 0 Is before before
  drawn_none = record { entries = λ e low high. absurd (omega arith); rest = λ i h. refl; long = refl }

  module _ {put : Row K → ℕ → K.Entry → Row K} (puts : Puts K put) {k : ℕ} {now : Row K} (drawn : Drawn K k Is before now) where
    -- the next arc's entry is the old one yet
    pub drawn_old : K.entry now (k + 1) ≡ K.entry before (k + 1)
    drawn_old = puts.by_places now before (k + 1) (λ i h. let back : k + 1 - 1 ≡ k = omega arith in drawn.rest i (rw back at h))

    -- it is put into the row
    pub drawn_next : (c : K.Entry) → K.places * (k + 1) ≤ length before → Is (k + 1) (K.entry before (k + 1)) c
        → Drawn K (k + 1) Is before (put now (k + 1) c)
    drawn_next c room h = record {
      entries = λ e low high. elim (ℕ_discrete e (k + 1)) [
        | yes same ↦
            subst (λ (i : ℕ). Is i (K.entry before i) (K.entry (put now (k + 1) c) i)) (sym same)
            (subst (Is (k + 1) (K.entry before (k + 1))) (sym (puts.there now (k + 1) c (omega arith) (omega (arith, drawn.long)))) h)
        | no other ↦
            subst (Is e (K.entry before e)) (sym (puts.elsewhere now (k + 1) e c (omega arith) low other)) (drawn.entries e low (omega arith))
      ];
      rest = λ i high. puts.past now (k + 1) c i (omega arith) high ∙ drawn.rest i (omega (arith, wider K.places k));
      long = puts.long now (k + 1) c ∙ drawn.long;
    }

    -- or it stays as it is
    pub drawn_stays : Is (k + 1) (K.entry before (k + 1)) (K.entry before (k + 1)) → Drawn K (k + 1) Is before now
    drawn_stays h = record {
      entries = λ e low high. elim (ℕ_discrete e (k + 1)) [
        | yes same ↦
            subst (λ (i : ℕ). Is i (K.entry before i) (K.entry now i)) (sym same)
            (subst (Is (k + 1) (K.entry before (k + 1))) (sym drawn_old) h)
        | no other ↦ drawn.entries e low (omega arith)
      ];
      rest = λ i high. drawn.rest i (omega (arith, wider K.places k));
      long = drawn.long;
    }

-- a row in which each entry is as it becomes
pub drawn_self : {K : Kind} {Is : ℕ → K.Entry → K.Entry → Type 0} (m : ℕ) (row : Row K) → ((e : ℕ) (b : K.Entry) → Is e b b)
    → Drawn K m Is row row
drawn_self m row h = record { entries = λ e low high. h e _; rest = λ i high. refl; long = refl }

-- one drawing after another
pub drawn_then : {K : Kind} {Is Js Ks : ℕ → K.Entry → K.Entry → Type 0} {m : ℕ} {a b c : Row K}
    → ((e : ℕ) → 1 ≤ e → e ≤ m → (p q : K.Entry) → Is e (K.entry a e) p → Js e p q → Ks e (K.entry a e) q)
    → Drawn K m Is a b → Drawn K m Js b c → Drawn K m Ks a c
drawn_then h p q = record {
  entries = λ e low high. h e low high _ _ (p.entries e low high) (q.entries e low high);
  rest = λ i high. q.rest i high ∙ p.rest i high;
  long = q.long ∙ p.long;
}

-- there is one such row only, where each entry becomes one only
pub drawn_unique : {K : Kind} {put : Row K → ℕ → K.Entry → Row K} {Is : ℕ → K.Entry → K.Entry → Type 0}
    {m : ℕ} {before after after' : Row K}
    → Puts K put → ((e : ℕ) → 1 ≤ e → e ≤ m → (b c c' : K.Entry) → Is e b c → Is e b c' → c ≡ c')
    → Drawn K m Is before after → Drawn K m Is before after' → after ≡ after'
drawn_unique {K} {m = m} {after = after} {after' = after'} puts one p q =
    ext_get_or K.none after after' (p.long ∙ sym q.long) (λ i h. elim (dec_lt i (K.places * m)) [
      | yes low ↦ puts.to_places after after' m (λ e l u. one e l u _ _ _ (p.entries e l u) (q.entries e l u)) i low
      | no high ↦ p.rest i (omega arith) ∙ sym (q.rest i (omega arith))
    ])

-- ---- Drawn where it is asked

pub if_long : {K : Kind} {Is : ℕ → K.Entry → K.Entry → Type 0} {m : ℕ} {before after : Row K} {asked : Bool} → DrawnIf asked K m Is before after → length after ≡ length before
if_long {asked = asked} d = elim (cases_Bool asked) [ inl e ↦ (d.drawn e).long | inr e ↦ ap length (d.kept e) ]

pub if_unique : {K : Kind} {put : Row K → ℕ → K.Entry → Row K} {Is : ℕ → K.Entry → K.Entry → Type 0}
    {m : ℕ} {before after after' : Row K} {asked : Bool}
    → Puts K put → ((e : ℕ) → 1 ≤ e → e ≤ m → (b c c' : K.Entry) → Is e b c → Is e b c' → c ≡ c')
    → DrawnIf asked K m Is before after → DrawnIf asked K m Is before after' → after ≡ after'
if_unique {asked = asked} puts one p q = elim (cases_Bool asked) [ inl e ↦ drawn_unique puts one (p.drawn e) (q.drawn e) | inr e ↦ p.kept e ∙ sym (q.kept e) ]
