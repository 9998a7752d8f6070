pub mod Answering
pub mod PaperLaws
pub mod SaysLaws
pub mod Networks
pub mod Cut
pub mod Surplus
pub mod Alone
