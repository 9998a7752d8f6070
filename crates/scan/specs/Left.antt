-- The pieces that an iterator has left.
use Rattle.std.specs.Prelude.{ℕ, List, []}
use Rattle.scan.specs.Pieces.{pieces}
use Rattle.scan.specs.declared.pieces.Pieces.{Pieces}

abbrev pub pieces_left : Pieces → List (List ℕ)
pieces_left p = pieces p.sep [] p.left.now
