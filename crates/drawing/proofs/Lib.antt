pub mod DrawnLaws
pub mod Steps
pub mod GatheredLaws
pub mod MissedLaws
