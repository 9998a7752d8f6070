-- What build, check and update say, demand 3, what closed tracks are, and tracks that lead nowhere.
pub mod Tight
pub mod Masks
pub mod Missing
pub mod Says
pub mod Demand3
pub mod Closing
pub mod Nowhere
pub mod AllOpen
