-- Refusals as the programs print them.
use Rattle.std.specs.Prelude.{ℕ, List, [], ◌∷◌, ◌++◌, map, cond, ◌&&◌, eqb, ltb, length, take, drop, get_or}
use Prim.Native.Char.{code}
use Prim.Native.String.{String}
use Rattle.scan.specs.Ascii.{bytes}
use Rattle.scan.specs.Decimal.{decimal}
use Rattle.scan.specs.Pieces.{first_at, after_first}
use Rattle.rules.specs.Paper.{refusal, number_of, place_of, first_or_0, tells_column}
use Rattle.rules.specs.declared.Refusal.{Refusal}
use Rattle.pages.specs.Spaced.{counts_text}

-- the values that a program prints of a file's refusal: line and column of 3, 15, 16 and 17, else the first value or 0
abbrev pub printed_values : Refusal → List ℕ
printed_values r = cond (tells_column (number_of r)) (refusal r).values (place_of r ∷ [])

-- what it prints of the refusal: the paper's number, and these values, each after a space
unfoldable pub place_text : Refusal → List ℕ
place_text r = bytes "refused " ++ decimal (number_of r) ++ counts_text (printed_values r)

-- all the values that the paper returns with a refusal, each after a space; none with 1, 2 and 11
unfoldable pub values_text : Refusal → List ℕ
values_text r = counts_text (refusal r).values

-- the second value, or 0 where there is none
abbrev pub second_of : Refusal → ℕ
second_of r = first_or_0 (drop 1 (refusal r).values)

-- The refusals in words, in the order of their numbers; `#` stands for a value. Line 0 is for 5 outside a text.
abbrev pub patterns : List String
patterns =
    "n, m or the new weight is beyond its limits"
    ∷ "the text is over 65536 bytes"
    ∷ "a lent row is too short"
    ∷ "line # is empty"
    ∷ "line # is data before the p line or a second p line"
    ∷ "a number in line # is beyond its limits"
    ∷ "the counts disagree at line #"
    ∷ "line # places a node a second time"
    ∷ "arc # has a bad node or weight"
    ∷ "node # has a bad coordinate"
    ∷ "the box of arc # is not well shaped"
    ∷ "the source, target or arc is not in the network"
    ∷ "no walk leads from the source to the target, settled #"
    ∷ "the box of arc # misses node #"
    ∷ "the closure of arc # is neither 0 nor 1"
    ∷ "line #, column #: no line of this kind of file begins so"
    ∷ "line #, column #: the field is misspelt"
    ∷ "line #, column #: a field is missing or one too many"
    ∷ "the module of node # is outside 1 to 32"
    ∷ []

-- the line that a refusal is told by, from its number and its first value
unfoldable pub line_of : ℕ → ℕ → ℕ
line_of number first = cond (eqb number 5 && eqb first 0) 0 number

-- the pattern of a refusal
abbrev pub pattern_of : Refusal → List ℕ
pattern_of r = get_or (map bytes patterns) (line_of (number_of r) (place_of r)) []

-- a pattern up to its first mark, with a value in the mark's place
unfoldable pub part : ℕ → List ℕ → List ℕ
part value pattern =
    let mark = first_at (code "#") pattern in
    cond (ltb mark (length pattern)) (take mark pattern ++ decimal value) pattern

-- what stands after it
abbrev pub after_mark : List ℕ → List ℕ
after_mark pattern = after_first (code "#") pattern

-- a pattern with two values in the places of its marks
unfoldable pub filled : List ℕ → ℕ → ℕ → List ℕ
filled pattern a b =
    let later = after_mark pattern in
    part a pattern ++ part b later ++ after_mark later

-- the refusal in words
unfoldable pub words_text : Refusal → List ℕ
words_text r = filled (pattern_of r) (place_of r) (second_of r)

-- what the console replies: the paper's number, the values, and the words in brackets
unfoldable pub refusal_line : Refusal → List ℕ
refusal_line r = bytes "refused " ++ decimal (number_of r) ++ values_text r ++ bytes " (" ++ words_text r ++ bytes ")\n"

-- what it replies where a file cannot be read
unfoldable pub no_file_line : List ℕ
no_file_line = bytes "refused 0 0 (the file cannot be read)\n"
