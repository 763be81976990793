pub mod Routes
pub mod Turns
pub mod Scripts
pub mod Listing
