pub mod StageLaws
pub mod FineLaws
pub mod CutLaws
pub mod NextLaws
pub mod OpenLaws
