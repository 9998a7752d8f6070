pub mod FieldLaws
mod LineLaws
mod MatchingLaws
pub mod NumberLaws
pub mod PieceLaws
pub mod DecimalLaws
pub mod WrittenLaws
pub mod FormLaws
pub mod FaultLaws
pub mod WorkedLines
