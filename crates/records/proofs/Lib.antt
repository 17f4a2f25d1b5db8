pub mod Lemmas
pub mod Promise
