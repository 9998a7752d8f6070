pub mod PaperLaws
pub mod ReplyLaws
pub mod QueryLaws
pub mod Listing
pub mod ReadLaws
pub mod Claims
pub mod Surplus
