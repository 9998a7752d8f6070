-- What the code of `settling` computes, step by step, and what its inner steps know.
pub mod Labels
pub mod Settle
pub mod Nearest
pub mod Run
pub mod Trace
pub mod LengthsTo
pub mod Seen
pub mod Stage
pub mod Front
pub mod Step
