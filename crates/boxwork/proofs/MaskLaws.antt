-- An arc has one mask only, and it has the module of each node of S(e).
use Prim.Native.Nat.{ℕ}
use mathlib.Core.Path.{◌≡◌, refl}
use mathlib.Core.List.{List}
use Rattle.masks.specs.Mask.{Has}
use Rattle.masks.proofs.MaskLaws.{masks_same}
use Rattle.walks.specs.Walk.{Net}
use Rattle.walks.specs.Rows.{at}
use Rattle.walks.specs.Through.{InS}
use Rattle.boxwork.specs.Masks.{MaskOf}

module _ {N : Net} {modules : List ℕ} {e : ℕ} where
  pub mask_unique : {a b : ℕ} → MaskOf N modules e a → MaskOf N modules e b → a ≡ b
  mask_unique {a} {b} p q = masks_same a b p.small q.small (λ j. ((λ h. (q.exactly j).1 ((p.exactly j).0 h)), (λ h. (p.exactly j).1 ((q.exactly j).0 h))))

  pub mask_has : {mask t : ℕ} → MaskOf N modules e mask → InS N e t → Has mask (at modules t)
  mask_has {t = t} p i = (p.exactly (at modules t)).1 (record { node = t; member = i; inside = refl })
