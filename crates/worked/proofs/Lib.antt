pub mod Computed
pub mod LowestLaws
pub mod MembersLaws
pub mod ComputedLaws
pub mod Tests
pub mod TableRight
pub mod Excluded
