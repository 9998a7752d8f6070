-- A refusal's number and values as the code hands them on.
use Rattle.std.specs.Prelude.{◌≡◌, take}
use Rattle.rules.specs.Paper.{Reply}
use Rattle.rules.specs.Places.{places}
use Rattle.rules.specs.declared.told.Told.{Told}

-- what is told is a reply's number and its values, with zeros in the places that have none
abbrev pub Tells : Told → Reply → Type 0
Tells told reply =
    (told.number ≡ reply.number) × (take told.count told.places ≡ reply.values) × (told.places ≡ places reply.values)
