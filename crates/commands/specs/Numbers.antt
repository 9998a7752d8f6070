-- Numbers of 32 bits: the spelling of `scan`, with the true values, and then the limits of the type.
use Rattle.std.specs.Prelude.{ℕ, cond, leb, ℤ, pos, negsuc, Option, Some, None, Result, Ok, Err}
use Rattle.commands.specs.declared.Fault.{Fault}
use Rattle.commands.specs.declared.Fault.TheVariants.{Misspelt, BeyondType}

-- a number without sign that is at most so much
unfoldable pub count_to : ℕ → Option ℕ → Result ℕ Fault
count_to most (Some v) = cond (leb v most) (Ok v) (Err BeyondType)
count_to most None = Err Misspelt

-- 0..4294967295
abbrev pub count_of : Option ℕ → Result ℕ Fault
count_of n = count_to 4294967295 n

-- 0..255
abbrev pub byte_of : Option ℕ → Result ℕ Fault
byte_of n = count_to 255 n

-- a number that may be negative: -2147483648..2147483647
unfoldable pub signed_of : Option ℤ → Result ℤ Fault
signed_of (Some (pos v)) = cond (leb v 2147483647) (Ok (pos v)) (Err BeyondType)
signed_of (Some (negsuc v)) = cond (leb v 2147483647) (Ok (negsuc v)) (Err BeyondType)
signed_of None = Err Misspelt
