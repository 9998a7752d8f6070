-- A day's running list (request g): its queries answered in order, and what `answer_all` says.
pub mod Replies
pub mod Paper
pub mod Says
pub mod Claims
pub mod Steps
