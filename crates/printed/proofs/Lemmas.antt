-- Lemmas nobody needs to read. What they lead to is stated in Promise.
pub mod Ranged
pub mod Lines
pub mod Sentences
pub mod Counted
