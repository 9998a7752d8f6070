pub mod DecimalLaws
pub mod SpacedLaws
pub mod Signed
pub mod FrontLaws
