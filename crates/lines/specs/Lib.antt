-- What a reader has to believe: a line's bytes, a run's lines, a written buffer.
pub mod Line
pub mod Run
pub mod Lent
pub mod Lemmas
pub mod Promise
