-- What has to be believed: what a record says to the machine, with which number a run stops, what an input says by its bytes, the first record, one step after the other. What is proved of them is in proofs/: Promise, and Turns.
pub mod Said
pub mod Stopping
pub mod Input
pub mod Opening
pub mod Going
pub mod Asked
