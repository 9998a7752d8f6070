pub mod Order
pub mod Cut
pub mod Each
