pub mod Puts
pub mod Added
pub mod Going
