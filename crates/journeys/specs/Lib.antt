pub mod Prints
pub mod Steps
