mod CallLaws
pub mod Unique
pub mod WritingLaws
