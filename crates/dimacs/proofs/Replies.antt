-- Laws of the readers' replies and of the rows that they leave.
use mathlib.Core.Path.{◌≡◌}
use mathlib.Core.List.{List, ◌++◌, map}
use mathlib.Core.Bool.{Bool, true, ◌&&◌}
use Prim.Native.Nat.{ℕ, ◌≤◌}
use lib.Dec.{leb}
use lib.IntN.{ℤ}
use lib.ListN.{length, drop, replicate}
use borrow.Author.Tests.{leb-true, le-leb}
use Rattle.rules.proofs.AndLaws.{and_true}
use Rattle.rules.specs.declared.Refusal.{Refusal}
use Rattle.rules.specs.declared.Refusal.TheVariants.{TextTooLong, RowTooShort, BeyondLimits}
use Rattle.rules.specs.Judging.{Judged}
use Rattle.scan.specs.declared.holding.Numbers.{Numbers}
use Rattle.rules.specs.Judging.{passes}
use Rattle.dimacs.specs.Texts.{read, refused, on_judged, read_text}
use Rattle.dimacs.specs.Rules.{column_of}
use Rattle.dimacs.specs.Rows.{row, open_row}
use Rattle.dimacs.specs.Reading.{read_gr, gr_says, read_co, co_says, read_p2p, p2p_says}
use Rattle.dimacs.specs.Promise.{GrPromise, CoPromise, P2pPromise}
use Rattle.dimacs.specs.declared.format.Format.TheVariants.{Graph, Coordinates, Queries}
use Rattle.dimacs.specs.declared.rows.Column.TheVariants.{First, Second, Third}
use Rattle.std.specs.Prelude.{Ok, Err}

-- ---- .gr

module _ (text tails heads weights closures : List ℕ) where
  abbrev long : Bool
  long = leb 2048 (length tails) && leb 2048 (length heads) && leb 2048 (length weights) && leb 2048 (length closures)

  -- the judgements a and b before the first line
  module _ (a : Judged) (p : a ≡ passes (leb (length text) 65536) TextTooLong) where
    pub gr_too_long : (x : Refusal) → a ≡ Err x → read_gr text tails heads weights closures ≡ refused x
    unfolding read_gr on_judged
    gr_too_long x e = rw (← p, e)

    module _ (fine : a ≡ Ok tt) (b : Judged) (q : b ≡ passes long RowTooShort) where
      pub gr_too_short : (x : Refusal) → b ≡ Err x → read_gr text tails heads weights closures ≡ refused x
      unfolding read_gr on_judged
      gr_too_short x e = rw (← p, fine, ← q, e)

      pub gr_judged : b ≡ Ok tt → read_gr text tails heads weights closures ≡ read_text Graph text
      unfolding read_gr on_judged
      gr_judged e = rw (← p, fine, ← q, e)

  pub gr_text_lem : length text ≤ 65536 → long ≡ true → read_gr text tails heads weights closures ≡ read_text Graph text
  unfolding read_gr on_judged
  gr_text_lem h i = rw (le-leb _ _ h, i)

  pub gr_out : (r : Refusal) → read_gr text tails heads weights closures ≡ refused r → GrPromise text tails heads weights closures (Err r) tails heads weights closures
  unfolding gr_says row open_row
  gr_out r e = record { reply = rw e; tails_left = rw e; heads_left = rw e; weights_left = rw e; closures_left = rw e }

  pub gr_in : (p : Numbers) (lines : List Numbers) (a b c d : List ℕ) → read_gr text tails heads weights closures ≡ read p lines → length lines ≡ p.second
      → a ≡ map (column_of First) lines ++ drop (length lines) tails → b ≡ map (column_of Second) lines ++ drop (length lines) heads
      → c ≡ map (column_of Third) lines ++ drop (length lines) weights → d ≡ replicate p.second 0 ++ drop p.second closures
      → GrPromise text tails heads weights closures (Ok (record { n = p.first; m = p.second })) a b c d
  unfolding gr_says row open_row
  gr_in p lines a b c d e long f g h i = record { reply = rw e; tails_left = rw e f; heads_left = rw e g; weights_left = rw e h; closures_left = rw (e, long) i }

-- ---- .co

module _ (text : List ℕ) (n : ℕ) (x y : List ℤ) where
  abbrev wide : Bool
  wide = leb 512 (length x) && leb 512 (length y)

  -- the judgements a, b and c before the first line
  module _ (a : Judged) (p : a ≡ passes (leb (length text) 65536) TextTooLong) where
    pub co_too_long : (z : Refusal) → a ≡ Err z → read_co text n x y ≡ refused z
    unfolding read_co on_judged
    co_too_long z e = rw (← p, e)

    module _ (fine : a ≡ Ok tt) (b : Judged) (q : b ≡ passes wide RowTooShort) where
      pub co_too_short : (z : Refusal) → b ≡ Err z → read_co text n x y ≡ refused z
      unfolding read_co on_judged
      co_too_short z e = rw (← p, fine, ← q, e)

      module _ (also : b ≡ Ok tt) (c : Judged) (r : c ≡ passes (leb 1 n && leb n 512) (BeyondLimits 0)) where
        pub co_beyond : (z : Refusal) → c ≡ Err z → read_co text n x y ≡ refused z
        unfolding read_co on_judged
        co_beyond z e = rw (← p, fine, ← q, also, ← r, e)

        pub co_judged : c ≡ Ok tt → read_co text n x y ≡ read_text (Coordinates n) text
        unfolding read_co on_judged
        co_judged e = rw (← p, fine, ← q, also, ← r, e)

  pub co_text_lem : length text ≤ 65536 → wide ≡ true → leb 1 n && leb n 512 ≡ true → read_co text n x y ≡ read_text (Coordinates n) text
  unfolding read_co on_judged
  co_text_lem h i j = rw (le-leb _ _ h, i, j)

  pub co_out : (r : Refusal) → read_co text n x y ≡ refused r → CoPromise text n x y (Err r) x y
  unfolding co_says row
  co_out r e = record { reply = rw e; x_left = rw e; y_left = rw e }

  pub co_in : (p : Numbers) (lines : List Numbers) (a b : List ℤ) → read_co text n x y ≡ read p lines
      → a ≡ map (λ ns. ns.x) lines ++ drop (length lines) x → b ≡ map (λ ns. ns.y) lines ++ drop (length lines) y → CoPromise text n x y (Ok tt) a b
  unfolding co_says row
  co_in p lines a b e f g = record { reply = rw e; x_left = rw e f; y_left = rw e g }

-- ---- .p2p

module _ (text : List ℕ) (n : ℕ) (answers : List ℕ) where
  -- the judgements a, b and c before the first line
  module _ (a : Judged) (p : a ≡ passes (leb (length text) 65536) TextTooLong) where
    pub p2p_too_long : (z : Refusal) → a ≡ Err z → read_p2p text n answers ≡ refused z
    unfolding read_p2p on_judged
    p2p_too_long z e = rw (← p, e)

    module _ (fine : a ≡ Ok tt) (b : Judged) (q : b ≡ passes (leb 256 (length answers)) RowTooShort) where
      pub p2p_too_short : (z : Refusal) → b ≡ Err z → read_p2p text n answers ≡ refused z
      unfolding read_p2p on_judged
      p2p_too_short z e = rw (← p, fine, ← q, e)

      module _ (also : b ≡ Ok tt) (c : Judged) (r : c ≡ passes (leb 1 n && leb n 512) (BeyondLimits 0)) where
        pub p2p_beyond : (z : Refusal) → c ≡ Err z → read_p2p text n answers ≡ refused z
        unfolding read_p2p on_judged
        p2p_beyond z e = rw (← p, fine, ← q, also, ← r, e)

        pub p2p_judged : c ≡ Ok tt → read_p2p text n answers ≡ read_text (Queries n) text
        unfolding read_p2p on_judged
        p2p_judged e = rw (← p, fine, ← q, also, ← r, e)

  module _ (sources targets : List ℕ) where
    pub p2p_out : (r : Refusal) → read_p2p text n answers ≡ refused r → P2pPromise text n answers sources targets (Err r) sources targets
    unfolding p2p_says row
    p2p_out r e = record { reply = rw e; sources_left = rw e; targets_left = rw e }

    pub p2p_in : (p : Numbers) (lines : List Numbers) (a b : List ℕ) → read_p2p text n answers ≡ read p lines
        → a ≡ map (column_of First) lines ++ drop (length lines) sources → b ≡ map (column_of Second) lines ++ drop (length lines) targets
        → P2pPromise text n answers sources targets (Ok p.first) a b
    unfolding p2p_says row
    p2p_in p lines a b e f g = record { reply = rw e; sources_left = rw e f; targets_left = rw e g }

-- ---- there is room

pub gr_room : (tails heads weights closures : List ℕ)
    → leb 2048 (length tails) && leb 2048 (length heads) && leb 2048 (length weights) && leb 2048 (length closures) ≡ true
    → (2048 ≤ length tails) × (2048 ≤ length heads) × (2048 ≤ length weights) × (2048 ≤ length closures)
gr_room tails heads weights closures e =
    let d = and_true (leb 2048 (length tails) && leb 2048 (length heads) && leb 2048 (length weights)) (leb 2048 (length closures)) e in
    let f = and_true (leb 2048 (length tails) && leb 2048 (length heads)) (leb 2048 (length weights)) d.0 in
    let g = and_true (leb 2048 (length tails)) (leb 2048 (length heads)) f.0 in
    (leb-true _ _ g.0, leb-true _ _ g.1, leb-true _ _ f.1, leb-true _ _ d.1)

pub two_tests : (a b c d : ℕ) → leb a b && leb c d ≡ true → (a ≤ b) × (c ≤ d)
two_tests a b c d e = let f = and_true (leb a b) (leb c d) e in (leb-true _ _ f.0, leb-true _ _ f.1)
