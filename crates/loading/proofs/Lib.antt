pub mod LoadingLaws
pub mod Unique
