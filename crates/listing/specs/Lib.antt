pub mod Listings
pub mod Keeping
