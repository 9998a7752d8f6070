pub mod Keys
mod Mending
mod Lowering
pub mod Leaves
mod Linking
pub mod Along
