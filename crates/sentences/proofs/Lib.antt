-- Lemmas that several functions' proofs cite.
pub mod Each
pub mod Endings
