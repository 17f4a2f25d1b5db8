-- Lemmas that several functions' proofs cite.
pub mod Short
pub mod Runs
