-- To read: Promise and Bench, what is promised of the reasons. The other lemmas lead there, or several functions' proofs cite them.
pub mod Promise
pub mod Bench
pub mod Lemmas
pub mod Found
pub mod Picks
