pub mod DeskLaws
pub mod RequestLaws
pub mod Unique
