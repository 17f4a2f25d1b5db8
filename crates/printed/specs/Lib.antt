-- What has to be believed: what an input says, and what is printed of a run and counted in it. To read: proofs/Promise; Determined.
pub mod Printed
pub mod Counting
pub mod Determined
