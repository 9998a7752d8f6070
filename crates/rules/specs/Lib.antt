pub mod Limits
pub mod Paper
pub mod Places
pub mod Told
pub mod Judging
