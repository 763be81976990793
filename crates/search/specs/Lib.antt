pub mod Labels
pub mod Chains
pub mod Once
pub mod Marks
pub mod Choices
pub mod Ways
pub mod Widths
