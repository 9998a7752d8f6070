pub mod AndLaws
pub mod JudgingLaws
pub mod PaperLaws
pub mod ToldLaws
