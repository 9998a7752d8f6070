-- "Why not by the bridge?" (request e): the reasons, and what `why` says.
pub mod Using
pub mod Reason
pub mod Paper
pub mod Says
pub mod Claims
pub mod Steps
