-- Lemmas nobody needs to read. What they lead to is stated in Promise.
pub mod Inversion
pub mod Kept
pub mod Others
pub mod Starts
pub mod FivePlaces
pub mod Refused
