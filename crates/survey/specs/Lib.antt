pub mod Walk
pub mod Working
pub mod Recording
pub mod Plain
pub mod Laying
