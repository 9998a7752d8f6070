-- What the searches say.
pub mod Paper
pub mod Says
