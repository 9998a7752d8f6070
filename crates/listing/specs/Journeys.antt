-- The listing that `journeys` prints.
use Rattle.std.specs.Prelude.{ℕ, zero, suc, List, [], ◌++◌, cond, eqb, get_or}
use Rattle.scan.specs.Ascii.{bytes}
use Rattle.scan.specs.Decimal.{decimal}
use Rattle.listing.specs.Listing.{count_field}

-- a length, or that there is no route, for its mark
unfoldable pub length_text : ℕ → List ℕ
length_text l = cond (eqb l 4294967295) (bytes "no route") (decimal l)

-- a query's line: source, target, length
unfoldable pub journey_text : ℕ → ℕ → ℕ → List ℕ
journey_text s t l = count_field s ++ count_field t ++ length_text l ++ bytes "\n"

-- the lines of the first k queries
unfoldable pub journeys_text : List ℕ → List ℕ → List ℕ → ℕ → List ℕ
journeys_text sources targets lengths zero = []
journeys_text sources targets lengths (suc i) =
    journeys_text sources targets lengths i ++ journey_text (get_or sources i 0) (get_or targets i 0) (get_or lengths i 0)

-- the totals: how many had a route, how many had none, and the sum of the lengths found
unfoldable pub totals_text : ℕ → ℕ → ℕ → List ℕ
totals_text found without sum = count_field found ++ count_field without ++ decimal sum ++ bytes "\n"
