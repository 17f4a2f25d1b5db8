-- To read: Promise. The Lemmas only lead to it.
pub mod Promise
pub mod Lemmas
