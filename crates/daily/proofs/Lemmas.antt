-- Lemmas nobody needs to read. What they lead to is stated in Promise.
pub mod Sweep
pub mod Found
pub mod Scan
pub mod Steps
