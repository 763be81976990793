pub mod Replied
pub mod Sessions
