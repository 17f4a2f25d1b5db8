-- Request 1 as definitions: the reasons and refusals, their numbers. What is promised of them is in proofs/Promise and proofs/Bench.
pub mod Reasons
pub mod Numbers
pub mod Applies
