-- The limits of the paper, "Sizes".
use Rattle.std.specs.Prelude.{ℕ, ℤ, pos, negsuc}

-- nodes and arcs
abbrev pub most_nodes : ℕ
most_nodes = 512

abbrev pub most_arcs : ℕ
most_arcs = 2048

-- queries of a day's list
abbrev pub most_queries : ℕ
most_queries = 256

-- tenths of a second
abbrev pub most_weight : ℕ
most_weight = 1_000_000

-- millimetres, from -1,000,000 to 1,000,000
abbrev pub least_coordinate : ℤ
least_coordinate = negsuc 999_999

abbrev pub most_coordinate : ℤ
most_coordinate = pos 1_000_000

-- modules are numbered from 1 to 32
abbrev pub most_modules : ℕ
most_modules = 32

-- bytes
abbrev pub longest_text : ℕ
longest_text = 65_536
