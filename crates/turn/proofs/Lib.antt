pub mod Loads
pub mod Crossing
pub mod Turnings
