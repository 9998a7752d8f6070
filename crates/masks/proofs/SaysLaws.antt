-- For each mask and row one reply and one content of the row, refused calls too.
use Prim.Native.Nat.{ℕ}
use mathlib.Core.Path.{◌≡◌, refl}
use mathlib.Core.List.{List}
use native.Mathlib.Omega.{arith}
use Rattle.rules.specs.Paper.{Reply}
use Rattle.masks.specs.Says.{LampsSays, too_short, lit}

pub lamps_unique : {mask : ℕ} {before : List ℕ} {reply reply' : Reply} {after after' : List ℕ} → LampsSays mask before reply after → LampsSays mask before reply' after' → (reply ≡ reply') × (after ≡ after')
lamps_unique (too_short h) (too_short h') = (refl, refl)
lamps_unique (too_short h) (lit h') = absurd (omega arith)
lamps_unique (lit h) (too_short h') = absurd (omega arith)
lamps_unique (lit h) (lit h') = (refl, refl)
