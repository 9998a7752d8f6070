-- Tests of what is told, and what they tell.
use Prim.Native.Nat.{ℕ, ◌+◌, ◌-◌}
use mathlib.Core.Path.{◌≡◌, refl, ap, subst}
use mathlib.Core.Bool.{Bool, true, false, ◌&&◌, false≢true}
use mathlib.Core.List.{List, [], ◌∷◌}
use native.Mathlib.Omega.{arith}
use borrow.Author.Tests.{eqb-true, leb-true}
use lib.Dec.{eqb, leb}
use lib.IntN.{ℤ, pos, negsuc}
use Rattle.rules.proofs.AndLaws.{and_true}
use Rattle.walks.specs.Walk.{WalkBy, by_none, by_arc}
use Rattle.walks.specs.Rows.{Rows, at, is_open, laid, network}
use Rattle.worked.specs.Table.{Told}

-- ---- The same numbers, rows and replies

abbrev pub same_numbers : List ℕ → List ℕ → Bool
same_numbers [] [] = true
same_numbers [] (y ∷ ys) = false
same_numbers (x ∷ xs) [] = false
same_numbers (x ∷ xs) (y ∷ ys) = eqb x y && same_numbers xs ys

pub same_numbers_lem : (xs ys : List ℕ) → same_numbers xs ys ≡ true → xs ≡ ys
same_numbers_lem [] [] t = refl
same_numbers_lem [] (y ∷ ys) t = absurd (false≢true t)
same_numbers_lem (x ∷ xs) [] t = absurd (false≢true t)
same_numbers_lem (x ∷ xs) (y ∷ ys) t = let p = and_true (eqb x y) (same_numbers xs ys) t in rw (eqb-true x y p.0, same_numbers_lem xs ys p.1)

abbrev pub same_place : ℤ → ℤ → Bool
same_place (pos a) (pos b) = eqb a b
same_place (pos a) (negsuc b) = false
same_place (negsuc a) (pos b) = false
same_place (negsuc a) (negsuc b) = eqb a b

same_place_lem : (a b : ℤ) → same_place a b ≡ true → a ≡ b
same_place_lem (pos a) (pos b) t = ap pos (eqb-true a b t)
same_place_lem (pos a) (negsuc b) t = absurd (false≢true t)
same_place_lem (negsuc a) (pos b) t = absurd (false≢true t)
same_place_lem (negsuc a) (negsuc b) t = ap negsuc (eqb-true a b t)

abbrev pub same_boxes : List ℤ → List ℤ → Bool
same_boxes [] [] = true
same_boxes [] (y ∷ ys) = false
same_boxes (x ∷ xs) [] = false
same_boxes (x ∷ xs) (y ∷ ys) = same_place x y && same_boxes xs ys

same_boxes_lem : (xs ys : List ℤ) → same_boxes xs ys ≡ true → xs ≡ ys
same_boxes_lem [] [] t = refl
same_boxes_lem [] (y ∷ ys) t = absurd (false≢true t)
same_boxes_lem (x ∷ xs) [] t = absurd (false≢true t)
same_boxes_lem (x ∷ xs) (y ∷ ys) t = let p = and_true (same_place x y) (same_boxes xs ys) t in rw (same_place_lem x y p.0, same_boxes_lem xs ys p.1)

abbrev pub same_told : Told → Told → Bool
same_told a b =
    eqb a.reply.number b.reply.number && same_numbers a.reply.values b.reply.values && same_numbers a.numbers b.numbers
    && same_numbers a.closures b.closures && same_boxes a.boxes b.boxes

pub same_told_lem : (a b : Told) → same_told a b ≡ true → a ≡ b
same_told_lem a b t =
    let number = eqb a.reply.number b.reply.number in
    let values = same_numbers a.reply.values b.reply.values in
    let numbers = same_numbers a.numbers b.numbers in
    let closures = same_numbers a.closures b.closures in
    let p = and_true (number && values && numbers && closures) (same_boxes a.boxes b.boxes) t in
    let q = and_true (number && values && numbers) closures p.0 in
    let r = and_true (number && values) numbers q.0 in
    let s = and_true number values r.0 in
    made (eqb-true _ _ s.0) (same_numbers_lem _ _ s.1) (same_numbers_lem _ _ r.1) (same_numbers_lem _ _ q.1) (same_boxes_lem _ _ p.1)
  where
    make : ℕ → List ℕ → List ℕ → List ℕ → List ℤ → Told
    make n v w c z = record { reply = record { number = n; values = v }; numbers = w; closures = c; boxes = z }

    made : {n n' : ℕ} {v v' w w' c c' : List ℕ} {z z' : List ℤ} → n ≡ n' → v ≡ v' → w ≡ w' → c ≡ c' → z ≡ z' → make n v w c z ≡ make n' v' w' c' z'
    made p q r s t = rw (p, q, r, s, t)

-- ---- A walk by open arcs, of a length

module _ (m : ℕ) (R : Rows) where
  -- e is an arc of the network
  abbrev among : ℕ → Bool
  among e = leb 1 e && leb e m && is_open R.closures e

  abbrev pub walks : ℕ → ℕ → ℕ → List ℕ → Bool
  walks u t l [] = eqb u t && eqb l 0
  walks u t l (e ∷ es) = among e && eqb (at R.tails e) u && leb (at R.weights e) l && walks (at R.heads e) t (l - at R.weights e) es

  pub walks_by : (u t l : ℕ) (arcs : List ℕ) → walks u t l arcs ≡ true → WalkBy (network m R) u t l arcs
  unfolding laid network
  walks_by u t l [] p = let q = and_true (eqb u t) (eqb l 0) p in rw (eqb-true u t q.0, eqb-true l 0 q.1) by_none
  walks_by u t l (e ∷ es) p =
      let w = at R.weights e in
      let rest = walks (at R.heads e) t (l - w) es in
      let p₁ = and_true (among e && eqb (at R.tails e) u && leb w l) rest p in
      let p₂ = and_true (among e && eqb (at R.tails e) u) (leb w l) p₁.0 in
      let p₃ = and_true (among e) (eqb (at R.tails e) u) p₂.0 in
      let p₄ = and_true (leb 1 e && leb e m) (is_open R.closures e) p₃.0 in
      let p₅ = and_true (leb 1 e) (leb e m) p₄.0 in
      let back : w + (l - w) ≡ l = omega (arith, leb-true w l p₂.1) in
      subst (λ (v : ℕ). WalkBy (network m R) v t l (e ∷ es)) (eqb-true _ u p₃.1)
      (subst (λ (k : ℕ). WalkBy (network m R) (at R.tails e) t k (e ∷ es)) back
      (by_arc e ((leb-true 1 e p₅.0, leb-true e m p₅.1), p₄.1) (walks_by (at R.heads e) t (l - w) es p₁.1)))
