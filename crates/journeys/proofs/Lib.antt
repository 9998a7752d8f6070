pub mod DayLaws
pub mod Unique
