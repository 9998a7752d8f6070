-- What is read back from the bits of an i32 is the number, from the bound that a read of an element (`.given`), a
-- parameter (`.fits`) or a call's result (`.ok`) hands over; and numbers are the same where their bits are.
use Rattle.std.proofs.Common.{◌≡◌, ℕ, suc, ◌-◌, ◌^◌, ◌<◌, ◌&&◌, eqb, leb, ℤ, pos, negsuc, arith, to_z-of_z, w32, to_z, of_z, eq-eqb, ne_eqb, eqb-true, le-leb, leb-true}
use lib.Signed.{mag}
use Rattle.rules.proofs.AndLaws.{and_true, and_yes, same_test}
use Rattle.geometry.specs.Box.{same_b}

pub back : (z : ℤ) → mag z < 2 ^ 31 → to_z w32 (of_z w32 z) ≡ z
back z p = to_z-of_z {w = w32} {z = z} (record { sfits = p })

pub same_bits : (z : ℤ) (n : ℕ) → mag z < 2 ^ 31 → n < 2 ^ 31 → eqb (of_z w32 z) n ≡ same_b z (pos n)
same_bits (pos k) n p q =
    same_test (eqb k n) (leb k n && leb n k)
    (λ t. let e = eqb-true k n t in and_yes (le-leb k n (omega arith)) (le-leb n k (omega arith)))
    (λ t. let h = and_true (leb k n) (leb n k) t in eq-eqb k n (omega (arith, leb-true k n h.0, leb-true n k h.1)))
same_bits (negsuc k) n p q = ne_eqb (2 ^ 32 - suc k) n (λ e. omega arith)
