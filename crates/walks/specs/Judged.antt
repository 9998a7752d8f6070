-- The rows of a network that was judged.
use Rattle.walks.specs.Rows.{Rows, rows}
use Rattle.walks.specs.declared.tracks.Tracks.{Tracks}

abbrev pub rows_in : Tracks → Rows
rows_in T = rows T.tails.now T.heads.now T.weights.now T.closures.now
