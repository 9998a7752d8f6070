pub mod Text
pub mod Plain
pub mod Writes
pub mod RoundTrip
