-- Lemmas nobody needs to read. What they lead to is stated in Promise.
pub mod Steps
