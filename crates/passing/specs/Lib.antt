-- What a call may be lent beside a network, and the tests that are asked of an arc.
pub mod Signs
pub mod Passing
pub mod Asking
pub mod Lent
pub mod Sieving
