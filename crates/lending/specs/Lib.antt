pub mod Stores
pub mod Lending
