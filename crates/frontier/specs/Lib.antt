-- Keys in a tree, and arcs in chains.
pub mod Tree
pub mod Chain
