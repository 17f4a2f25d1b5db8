-- Lemmas that nobody needs to read.
pub mod NotRefused
pub mod Rows
pub mod Somewhere
pub mod Guards
pub mod Named
pub mod Hazards
pub mod Told
pub mod Runs
