-- Texts that are as they would be written: no comments, byte 10 at the end, nodes in ascending order.
use Rattle.std.specs.Prelude.{ℕ, ◌+◌, ◌<◌, ◌≡◌, List, [], ◌∷◌, length, get_or, Result, Ok, Err}
use Prim.Native.Char.{code}
use Rattle.scan.specs.Pieces.{lines_of}
use Rattle.scan.specs.Written.{NoComments, last_byte}
use Rattle.scan.specs.declared.fields.Fault.{Fault}
use Rattle.scan.specs.declared.line.Line.{Line}
use Rattle.scan.specs.declared.line.Line.TheVariants.{Comment, Problem, Data}
use Rattle.dimacs.specs.Co.{co_line}

-- the nodes that the `v` lines name, in their order
abbrev pub node_then : Result Line Fault → List ℕ → List ℕ
node_then (Ok (Data ns)) nodes = ns.first ∷ nodes
node_then (Ok Comment) nodes = nodes
node_then (Ok (Problem ns)) nodes = nodes
node_then (Err f) nodes = nodes

unfoldable pub nodes_of : List (List ℕ) → List ℕ
nodes_of [] = []
nodes_of (l ∷ ls) = node_then (co_line l) (nodes_of ls)

-- each node is above the one before it
pub record Ascending (nodes : List ℕ) : Type 0 where
  pub rises : (i : ℕ) → i + 1 < length nodes → get_or nodes i 0 < get_or nodes (i + 1) 0

-- .gr and .co
pub record PlainGr (text : List ℕ) : Type 0 where
  pub uncommented : NoComments text
  pub ends : last_byte text ≡ code "\n"

pub record PlainCo (text : List ℕ) : Type 0 where
  pub uncommented : NoComments text
  pub ends : last_byte text ≡ code "\n"
  pub nodes : Ascending (nodes_of (lines_of text))
