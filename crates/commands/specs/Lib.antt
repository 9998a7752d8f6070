pub mod Words
pub mod Verbs
pub mod Rows
pub mod Numbers
pub mod Commands
