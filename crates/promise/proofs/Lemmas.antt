-- Lemmas nobody needs to read. What they lead to is stated in Promise and Enough.
pub mod Refusing
pub mod Guarded
pub mod Waiting
pub mod Same
pub mod SameTake
pub mod Remembers
pub mod Invariant
pub mod Step
pub mod Begin
pub mod Runs
pub mod FreedUnheld
pub mod ProtectedKept
pub mod Waits
pub mod GivenUp
pub mod Parts
pub mod Enough
