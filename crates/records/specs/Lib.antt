pub mod Marks
pub mod Bytes
pub mod Reading
pub mod Rest
pub mod Writing
pub mod Numbers
pub mod EitherKind
pub mod Promise
