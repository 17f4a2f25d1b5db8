-- Lemmas behind the statements of `Promise`. Nothing here has to be believed.
pub mod Asked
pub mod Begun
pub mod Enough
pub mod Told
