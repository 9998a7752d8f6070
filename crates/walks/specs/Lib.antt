-- Walks, least lengths, routes, settled counts and S(e), in the words of 01. `Settling` is what a search knows on its way.
pub mod Walk
pub mod Order
pub mod Least
pub mod Route
pub mod Count
pub mod Settled
pub mod Search
pub mod Through
pub mod Rows
pub mod Checking
pub mod Settling
pub mod Lent
pub mod Judged
