-- Masks of modules, and what the panel shows.
pub mod Mask
pub mod Panel
pub mod Paper
pub mod Says
