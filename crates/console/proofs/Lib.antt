pub mod Going
pub mod Sessions
