-- That demand 3 is kept. To read: Promise, and Enough. The Lemmas only lead to them.
pub mod Promise
pub mod Enough
pub mod Moments
pub mod Lemmas
