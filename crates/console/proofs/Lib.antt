mod AnswerLaws
pub mod Unique
