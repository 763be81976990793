pub mod Facing
pub mod Reaching
pub mod Reached
pub mod Picking
pub mod Lowering
pub mod Telling
pub mod Verdicts
pub mod Placing
