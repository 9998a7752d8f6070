-- The hall plan of 01, worked through.
pub mod Plans
pub mod Table
