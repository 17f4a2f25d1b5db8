-- Lemmas that several functions' proofs cite.
pub mod Firsts
