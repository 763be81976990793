pub mod Standing
pub mod Facing
pub mod Picking
pub mod Telling
pub mod Asked
pub mod Published
