pub mod Loads
pub mod Doubling
pub mod Outcomes
