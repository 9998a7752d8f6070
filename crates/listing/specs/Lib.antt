pub mod Listing
pub mod Journeys
