-- Laws of a line that is heard byte by byte.
use Prim.Native.Nat.{ℕ, suc, ◌+◌, ◌-◌, ◌≤◌, ◌<◌, min}
use mathlib.Core.Path.{◌≡◌, refl, sym, ap, subst, ◌∙◌}
use mathlib.Core.Logic.{◌⊎◌, inl, inr}
use mathlib.Core.List.{List, [], ◌∷◌, ◌++◌, append_assoc, append-nil}
use mathlib.Core.Bool.{Bool, true, false}
use native.Mathlib.Decide.{dec_le}
use native.Mathlib.Nat.{add-zero}
use native.Mathlib.Omega.{arith}
use lib.ListN.{length, set, get_or, length-append, length-set}
use lib.Seq.{set_out}
use Rattle.hearing.specs.Hearing.{bytes_from, written, Hears, HeardLine}

-- ---- what is ahead
pub none_ahead : (chunk : List ℕ) (at end : ℕ) → end ≤ at → bytes_from chunk at (end - at) ≡ []
unfolding bytes_from
none_ahead chunk at end h = let e : end - at ≡ 0 = omega arith in rw e

pub next_ahead : (chunk : List ℕ) (at end : ℕ) → at < end → bytes_from chunk at (end - at) ≡ get_or chunk at 0 ∷ bytes_from chunk (at + 1) (end - (at + 1))
unfolding bytes_from
next_ahead chunk at end h = let e : end - at ≡ suc (end - (at + 1)) = omega arith in rw e

-- all of a chunk is ahead
pub just_read : (chunk : List ℕ) (end : ℕ) {chunk' ahead : List ℕ} {end' : ℕ} → chunk' ≡ chunk → end' ≡ end → bytes_from chunk 0 (end - 0) ≡ ahead → bytes_from chunk' 0 end' ≡ ahead
just_read chunk end e f h = let z : end - 0 ≡ end = omega arith in rw (e, f) (rw z at h)

-- ---- a line in what is ahead
abbrev pub NoEnd : List ℕ → Type 0
NoEnd [] = record {}
NoEnd (b ∷ line) = (b ≡ 10 → ⊥) × NoEnd line

-- where a byte 10 is ahead, the line is what stands before it, and what stands after it stays
pub heard_ahead : (line : List ℕ) {rest l after : List ℕ} {ended : Bool} → NoEnd line → Hears (line ++ (10 ∷ rest)) l ended after
    → (l ≡ line) × (ended ≡ false) × (after ≡ rest)
heard_ahead [] n Hears.line_end = (refl, refl, refl)
heard_ahead [] n (Hears.byte other h) = absurd (other refl)
heard_ahead (b ∷ line) n Hears.line_end = absurd (n.0 refl)
heard_ahead (b ∷ line) n (Hears.byte other h) = let x = heard_ahead line n.1 h in (ap (λ (l : List ℕ). b ∷ l) x.0, x.1, x.2)

-- ---- hearing, byte by byte

-- a line after a line
written_both : (a b room : List ℕ) (at : ℕ) → written room at (a ++ b) ≡ written (written room at a) (at + length a) b
unfolding written
written_both [] b room at = rw (add-zero at)
written_both (c ∷ a) b room at = let e : at + 1 + length a ≡ at + suc (length a) = omega arith in rw (written_both a b (set room at c) (at + 1), e)

-- so much of a line was heard, in as many turns, and `ahead` is ahead of the rest
pub record Hearing (ahead₀ before line ahead : List ℕ) (k turns : ℕ) : Type 0 where
  pub heard : List ℕ
  pub on : (l rest : List ℕ) (ended : Bool) → Hears ahead l ended rest → Hears ahead₀ (heard ++ l) ended rest
  pub kept : line ≡ written before 0 heard
  pub long : length line ≡ length before
  pub count : k ≡ min (length heard) (length before + 1)
  pub each : length heard ≡ turns

pub hearing_none : (ahead line : List ℕ) → Hearing ahead line line ahead 0 0
unfolding written
hearing_none ahead line = record { heard = []; on = λ l rest ended h. h; kept = refl; long = refl; count = omega arith; each = refl }

module _ (ahead₀ before line ahead : List ℕ) (k turns : ℕ) (g : Hearing ahead₀ before line ahead k turns) where
  ended_as : (rest : List ℕ) (ended : Bool) → Hears ahead [] ended rest → HeardLine ahead₀ before line k ended rest
  ended_as rest ended h = record {
    line = g.heard;
    hears = λ _. subst (λ (x : List ℕ). Hears ahead₀ x ended rest) (append-nil g.heard) (g.on [] rest ended h);
    kept = g.kept;
    count = g.count;
  }

  -- what a read ended in
  pub heard_over : {rest : List ℕ} → ahead ≡ [] → rest ≡ [] → HeardLine ahead₀ before line k true rest
  heard_over e f = rw f (ended_as [] true (rw e Hears.over))

  -- the next byte
  module _ (b : ℕ) (ahead' : List ℕ) {P : Type 0} (f : (ahead ≡ b ∷ ahead') ⊎ ((ahead ≡ []) × P)) where
    from : (l rest : List ℕ) (ended : Bool) → Hears (b ∷ ahead') l ended rest → Hears ahead l ended rest
    from l rest ended h = by_side f
      where
        by_side : (ahead ≡ b ∷ ahead') ⊎ ((ahead ≡ []) × P) → Hears ahead l ended rest
        by_side (inl e) = rw e h
        by_side (inr u) = rw u.0 (Hears.reads h)

    pub heard_whole : b ≡ 10 → HeardLine ahead₀ before line k false ahead'
    heard_whole e = ended_as ahead' false (from [] ahead' false (rw e Hears.line_end))

    module _ (j : ℕ) (other : b ≡ 10 → ⊥) (e : j ≡ min k (length line) + 1) where
      same_place : set line k b ≡ set line (length g.heard) b
      same_place = elim (dec_le (length g.heard) (length before)) [
        | yes h ↦ let n : k ≡ length g.heard = omega (arith, g.count) in rw n
        | no h ↦ set_out line k b (omega (arith, g.count, g.long)) ∙ sym (set_out line (length g.heard) b (omega (arith, g.long)))
      ]

      kept_more : set line k b ≡ written before 0 (g.heard ++ (b ∷ []))
      unfolding written
      kept_more =
          let z : 0 + length g.heard ≡ length g.heard = omega arith in
          rw (written_both g.heard (b ∷ []) before 0, z) (same_place ∙ ap (λ (p : List ℕ). set p (length g.heard) b) g.kept)

      pub hear_more : Hearing ahead₀ before (set line k b) ahead' j (turns + 1)
      hear_more = record {
        heard = g.heard ++ (b ∷ []);
        on = λ l rest ended h. subst (λ (x : List ℕ). Hears ahead₀ x ended rest) (sym (append_assoc g.heard (b ∷ []) l)) (g.on (b ∷ l) rest ended (from (b ∷ l) rest ended (Hears.byte other h)));
        kept = kept_more;
        long = rw length-set g.long;
        count = rw length-append (omega (arith, g.count, g.long));
        each = rw length-append (omega (arith, g.each));
      }
