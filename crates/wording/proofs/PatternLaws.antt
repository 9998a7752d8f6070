-- Laws of the patterns that refusals are told by, and of the words, put piece by piece.
use Prim.Native.Nat.{ℕ, ◌+◌, ◌-◌, ◌≤◌}
use mathlib.Core.Path.{◌≡◌, ◌∙◌}
use mathlib.Core.List.{List, ◌++◌, append_assoc}
use native.Mathlib.Omega.{arith}
use lib.ListN.{length, length-drop}
use Rattle.scan.specs.Pieces.{first_at}
use Rattle.rules.specs.Paper.{place_of}
use Rattle.rules.specs.declared.Refusal.{Refusal}
use Rattle.wording.specs.Refusals.{second_of, pattern_of, part, after_mark, filled, words_text}

-- what is left of a pattern behind its mark, which stands at e
pub after_long : (p : List ℕ) (e : ℕ) → e ≡ first_at 35 p → e ≤ length p → length (after_mark p) ≡ length p - (e + 1)
after_long p e q h = simp length-drop (omega (arith, q))

regrouped : (p a b c : List ℕ) → ((p ++ a) ++ b) ++ c ≡ p ++ ((a ++ b) ++ c)
regrouped p a b c = simp append_assoc

pub words_told : (r : Refusal) {first second : ℕ} {pattern later last a b : List ℕ} (before page : List ℕ)
    → first ≡ place_of r
    → second ≡ second_of r
    → pattern ≡ pattern_of r
    → later ≡ after_mark pattern
    → last ≡ after_mark later
    → a ≡ before ++ part first pattern
    → b ≡ a ++ part second later
    → page ≡ b ++ last
    → page ≡ before ++ words_text r
unfolding words_text filled
words_told r before page f s p l t x y z = z ∙ rw (y, x, t, l, p, f, s) (regrouped before _ _ _)
