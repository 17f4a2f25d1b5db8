-- What makes the statements quick to compute. Nothing here has to be believed.
pub mod Computing
pub mod Quick
