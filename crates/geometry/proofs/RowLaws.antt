-- Laws of boxes in a row: what a stored box leaves at each place.
use Rattle.std.proofs.Common.{◌≡◌, ℕ, ◌+◌, ◌-◌, ◌*◌, ◌<◌, ◌≤◌, ◌⊎◌, List, length, set, ℤ, inl, inr, ⊎_elim, arith, length-set, get_or-set_other, get_or-set_same}
use native.Mathlib.Decide.{dec_lt}
use Rattle.geometry.specs.Box.{Box}
use Rattle.geometry.specs.Row.{number, box_from, put_from, box_of, with_box, Shaped}
use Rattle.geometry.proofs.SmallestLaws.{same_box}

-- a stored box keeps every other place
put-kept : (l : List ℤ) (k : ℕ) (b : Box) (i : ℕ) → (i < k) ⊎ (k + 3 < i) → number (put_from l k b) i ≡ number l i
put-kept l k b i h =
    let n₀ : i ≡ k → ⊥ = λ e. ⊎_elim (λ p. omega arith) (λ p. omega arith) h in
    let n₁ : i ≡ k + 1 → ⊥ = λ e. ⊎_elim (λ p. omega arith) (λ p. omega arith) h in
    let n₂ : i ≡ k + 2 → ⊥ = λ e. ⊎_elim (λ p. omega arith) (λ p. omega arith) h in
    let n₃ : i ≡ k + 3 → ⊥ = λ e. ⊎_elim (λ p. omega arith) (λ p. omega arith) h in
    rw (get_or-set_other, get_or-set_other, get_or-set_other, get_or-set_other)

-- and is read back
put_same : (l : List ℤ) (k : ℕ) (b : Box) → k + 3 < length l → box_from (put_from l k b) k ≡ b
put_same l k b h =
    let a : k < length l = omega arith in
    let l₁ : List ℤ = set l k b.left in
    let l₂ : List ℤ = set l₁ (k + 1) b.right in
    let l₃ : List ℤ = set l₂ (k + 2) b.low in
    let h₁ : k + 1 < length l₁ = simp length-set (omega arith) in
    let h₂ : k + 2 < length l₂ = simp length-set (omega arith) in
    let h₃ : k + 3 < length l₃ = simp length-set (omega arith) in
    let n₀₁ : k ≡ k + 1 → ⊥ = λ e. omega arith in
    let n₀₂ : k ≡ k + 2 → ⊥ = λ e. omega arith in
    let n₀₃ : k ≡ k + 3 → ⊥ = λ e. omega arith in
    let n₁₂ : k + 1 ≡ k + 2 → ⊥ = λ e. omega arith in
    let n₁₃ : k + 1 ≡ k + 3 → ⊥ = λ e. omega arith in
    let n₂₃ : k + 2 ≡ k + 3 → ⊥ = λ e. omega arith in
    same_box
    (rw (get_or-set_other, get_or-set_other, get_or-set_other, get_or-set_same))
    (rw (get_or-set_other, get_or-set_other, get_or-set_same))
    (rw (get_or-set_other, get_or-set_same))
    (rw get_or-set_same)

-- ---- The row with another box for an arc

pub with-length : (row : List ℤ) (arc : ℕ) (b : Box) → length (with_box row arc b) ≡ length row
with-length row arc b = simp length-set

pub with_same : (row : List ℤ) (arc : ℕ) (b : Box) → 1 ≤ arc → 4 * arc ≤ length row → box_of (with_box row arc b) arc ≡ b
with_same row arc b low high = put_same row (4 * (arc - 1)) b (omega arith)

-- every other arc's box is kept
pub with_other : (row : List ℤ) (arc other : ℕ) (b : Box) → 1 ≤ arc → 1 ≤ other → (other ≡ arc → ⊥) → box_of (with_box row arc b) other ≡ box_of row other
with_other row arc other b low low' differ =
    same_box
    (put-kept row at b place (apart place (omega arith) (omega arith)))
    (put-kept row at b (place + 1) (apart (place + 1) (omega arith) (omega arith)))
    (put-kept row at b (place + 2) (apart (place + 2) (omega arith) (omega arith)))
    (put-kept row at b (place + 3) (apart (place + 3) (omega arith) (omega arith)))
  where
    at : ℕ
    at = 4 * (arc - 1)

    place : ℕ
    place = 4 * (other - 1)

    apart : (j : ℕ) → 4 * (other - 1) ≤ j → j < 4 * (other - 1) + 4 → (j < 4 * (arc - 1)) ⊎ (4 * (arc - 1) + 3 < j)
    apart j p r = elim (dec_lt other arc) [ yes q ↦ inl (omega arith) | no q ↦ inr (omega arith) ]

-- so is every place past the arc's box
pub with_past : (row : List ℤ) (arc : ℕ) (b : Box) (i : ℕ) → 1 ≤ arc → 4 * arc ≤ i → number (with_box row arc b) i ≡ number row i
with_past row arc b i low high = put-kept row (4 * (arc - 1)) b i (inr (omega arith))

-- ---- Well-shaped boxes

-- those of fewer arcs
pub shaped_fewer : {row : List ℤ} {m k : ℕ} → k ≤ m → Shaped m row → Shaped k row
shaped_fewer h s = record { long = omega (arith, s.long); each = λ arc low high. s.each arc low (omega arith) }
