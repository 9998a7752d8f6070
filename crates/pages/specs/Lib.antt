pub mod Page
pub mod Spaced
