-- Rows that have an entry for each arc, drawn anew.
use Rattle.std.specs.Prelude.{ℕ, ◌-◌, ◌*◌, ◌≤◌, ◌≡◌, Bool, true, false, List, ℤ, pos, length, get_or}
use Rattle.geometry.specs.Box.{Box}
use Rattle.geometry.specs.Row.{box_of}

-- A kind of row: what stands at each place, and at none past its end; how many places an arc has; and the entry that they make.
pub record Kind : Type 1 where
  pub Number : Type 0
  pub none : Number
  pub places : ℕ
  pub Entry : Type 0
  pub entry : List Number → ℕ → Entry

abbrev pub Row : Kind → Type 0
Row K = List K.Number

-- four numbers an arc: its box
abbrev pub box_row : Kind
box_row = record { Number = ℤ; none = pos 0; places = 4; Entry = Box; entry = box_of }

-- one place an arc, which is its entry
abbrev pub single_row : (A : Type 0) → A → Kind
single_row A none = record { Number = A; none = none; places = 1; Entry = A; entry = λ row e. get_or row (e - 1) none }

-- marks of arcs
abbrev pub mark_row : Kind
mark_row = single_row Bool false

-- masks of arcs
abbrev pub mask_row : Kind
mask_row = single_row ℕ 0

abbrev pub mark_of : List Bool → ℕ → Bool
mark_of row e = get_or row (e - 1) false

-- The row after a call that draws the entries of the arcs 1..m: `Is e b c` tells what entry c becomes of arc e's old entry b.
-- Every other place keeps what stood there.
pub record Drawn (K : Kind) (m : ℕ) (Is : ℕ → K.Entry → K.Entry → Type 0) (before after : Row K) : Type 0 where
  pub entries : (e : ℕ) → 1 ≤ e → e ≤ m → Is e (K.entry before e) (K.entry after e)
  pub rest : (i : ℕ) → K.places * m ≤ i → get_or after i K.none ≡ get_or before i K.none
  pub long : length after ≡ length before

-- the row after a call that draws it where that is asked; else it stays as it is
pub record DrawnIf (asked : Bool) (K : Kind) (m : ℕ) (Is : ℕ → K.Entry → K.Entry → Type 0) (before after : Row K) : Type 0 where
  pub drawn : asked ≡ true → Drawn K m Is before after
  pub kept : asked ≡ false → after ≡ before
