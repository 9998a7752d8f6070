-- The rows of a network that is lent.
use Rattle.walks.specs.Rows.{Rows, rows}
use Rattle.walks.specs.declared.Network.{Network}

abbrev pub rows_of : Network → Rows
rows_of N = rows N.tails.now N.heads.now N.weights.now N.closures.now
