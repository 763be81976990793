pub mod Meaning
pub mod Ring
pub mod Laws
