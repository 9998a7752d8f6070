pub mod Order
pub mod Signed
pub mod SmallestLaws
pub mod Tests
pub mod MarkLaws
pub mod RowLaws
pub mod Wrapping
