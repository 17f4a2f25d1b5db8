-- What is computed of the runs.
pub mod Reached
pub mod Starving
pub mod Caught
pub mod Explained
