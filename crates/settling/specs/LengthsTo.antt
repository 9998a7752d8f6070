-- S(e) by the labels of a search from t in the reverse network.
use Rattle.std.specs.Prelude.{ℕ, ◌+◌, Bool, ◌&&◌, ltb, eqb}
use Rattle.walks.specs.Rows.{Rows, at, is_open, turned}
use Rattle.settling.specs.declared.Labels.{Labels}
use Rattle.settling.specs.Labels.{none, length_of}
use Rattle.settling.specs.Run.{labels_of}

-- the labels of a search from t in the reverse network, by all open arcs
abbrev pub toward_of : Rows → ℕ → ℕ → ℕ → Labels
toward_of R n m t = labels_of (turned R) (is_open R.closures) n m t

-- with an arc's weight and the labels' lengths of its head and its tail: the head has a label, and with the arc added it is the tail's
unfoldable pub on_shortest : ℕ → ℕ → ℕ → Bool
on_shortest w head tail = ltb head none && eqb (w + head) tail

-- t is in S(e), by the labels toward t: e is open, and on a shortest walk
abbrev pub is_in_s : Rows → Labels → ℕ → Bool
is_in_s R L e = is_open R.closures e && on_shortest (at R.weights e) (length_of L (at R.heads e)) (length_of L (at R.tails e))
