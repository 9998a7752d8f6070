pub mod Desk
pub mod Requests
