-- Lemmas behind the statements of `Promise` and behind the proofs of the code. Nothing here has to be believed.
pub mod Digits
pub mod Front
pub mod Cases
pub mod Back
pub mod Told
