pub mod Runs
pub mod Parts
pub mod Digits
pub mod Same
