-- The commands by their names.
use Rattle.std.specs.Prelude.{ℕ, List, [], ◌∷◌, Bool, true, ◌&&◌, ◌||◌, eqb, leb, Option, find, codes}
use Rattle.std.specs.Str.{bytes_eq}
use Rattle.commands.specs.declared.verbs.Format.TheVariants as format
use Rattle.commands.specs.declared.verbs.Reading.TheVariants as reading
use Rattle.commands.specs.declared.verbs.Verb.{Verb}
use Rattle.commands.specs.declared.verbs.Verb.TheVariants as verb

abbrev pub all_verbs : List Verb
all_verbs =
    verb.N
    ∷ verb.M
    ∷ verb.Lend
    ∷ verb.Show
    ∷ verb.Read reading.Gr
    ∷ verb.Read reading.Co
    ∷ verb.Read reading.P2p
    ∷ verb.Build
    ∷ verb.Check
    ∷ verb.Update
    ∷ verb.Search
    ∷ verb.Boxed
    ∷ verb.Why
    ∷ verb.Write format.Gr
    ∷ verb.Write format.Co
    ∷ verb.Save format.Gr
    ∷ verb.Save format.Co
    ∷ verb.Fresh
    ∷ verb.Help
    ∷ []

-- the first word of a line with a command
unfoldable pub name_of : Verb → List ℕ
name_of verb.N = codes "n"
name_of verb.M = codes "m"
name_of verb.Lend = codes "lend"
name_of verb.Show = codes "show"
name_of (verb.Read reading.Gr) = codes "gr"
name_of (verb.Read reading.Co) = codes "co"
name_of (verb.Read reading.P2p) = codes "p2p"
name_of verb.Build = codes "build"
name_of verb.Check = codes "check"
name_of verb.Update = codes "update"
name_of verb.Search = codes "search"
name_of verb.Boxed = codes "boxed"
name_of verb.Why = codes "why"
name_of (verb.Write format) = codes "write"
name_of (verb.Save format) = codes "save"
name_of verb.Fresh = codes "fresh"
name_of verb.Help = codes "help"

-- whether the second word names the kind of file, where that is a part of a command's name
abbrev pub is_of : List ℕ → Verb → Bool
is_of second (verb.Write format.Gr) = bytes_eq second (codes "gr")
is_of second (verb.Write format.Co) = bytes_eq second (codes "co")
is_of second (verb.Save format.Gr) = bytes_eq second (codes "gr")
is_of second (verb.Save format.Co) = bytes_eq second (codes "co")
is_of second _ = true

unfoldable pub is_called : List ℕ → List ℕ → Verb → Bool
is_called first second verb = bytes_eq (name_of verb) first && is_of second verb

-- the command that a line's first two words name
abbrev pub verb_of : List ℕ → List ℕ → Option Verb
verb_of first second = find (is_called first second) all_verbs

-- whether a line may have so many words, the command included
abbrev pub takes_words : Verb → ℕ → Bool
takes_words verb.N words = eqb words 2
takes_words verb.M words = eqb words 2
takes_words verb.Lend words = leb 2 words
takes_words verb.Show words = eqb words 2 || eqb words 3
takes_words (verb.Read reading) words = eqb words 2
takes_words verb.Build words = eqb words 1
takes_words verb.Check words = eqb words 1
takes_words verb.Update words = eqb words 4
takes_words verb.Search words = eqb words 3
takes_words verb.Boxed words = eqb words 3
takes_words verb.Why words = eqb words 4
takes_words (verb.Write format) words = eqb words 2
takes_words (verb.Save format) words = eqb words 3
takes_words verb.Fresh words = eqb words 1
takes_words verb.Help words = eqb words 1
