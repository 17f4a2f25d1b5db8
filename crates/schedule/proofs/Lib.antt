-- What is proved of the definitions of specs/. To read: Promise, and Turns, by which the loops of those above go on.
pub mod Lemmas
pub mod Promise
pub mod Turns
